-- Each turn gives the first of the items that are left.
use Rattle.std.proofs.Common.{◌≡◌, ◌+◌, ◌<◌, List, ◌∷◌, length, Some, None, Ok, Err, Option, Result, sym, ap, ◌∙◌, arith}
use Rattle.format.specs.declared.part.Part.{Part}
use Rattle.format.specs.declared.fault.ImageFault.{ImageFault}
use Rattle.format.specs.declared.fault.ImageFault.TheVariants.{Trailing}
use Rattle.format.specs.Parts.{piece, shown, pieces_from}
use Rattle.format.proofs.Items.{Item, part_within, end_within, onward, items_from, nothing_behind, some_behind}
use Rattle.image.specs.Parts.{rest}
use Rattle.image.proofs.parts.PartsIterator.next.Goals as goal
use Rattle.image.proofs.parts.PartsIterator.next.Goals.{After-next_part}

-- The items that are left, by what was read.
items : (c : After-next_part) (r : Result (Option Part) ImageFault) → c.next_part.result ≡ r → rest c.args.self.now ≡ onward c.args.self.now.image.now c.in_ok-at.at (shown r)
items c r e =
    ap (pieces_from c.args.self.now.image.now) (sym c.take.ensures.value ∙ c.in_ok-at.was)
    ∙ items_from c.args.self.now.image.now c.in_ok-at.at
    ∙ ap (onward c.args.self.now.image.now c.in_ok-at.at) (sym c.next_part.ensures ∙ ap shown e)

-- Without its first item a list is shorter.
fewer : (is js : List Item) (i : Item) → is ≡ i ∷ js → length js < length is
fewer is js i e = omega (arith, ap length e)

pub overflow_add-self : goal.overflow_add-self
overflow_add-self c = omega (arith, part_within _ _ _ (rw c.in-Ok-Some.field-0-is at c.in-Ok-Some.ensures), c.size_of.ensures)

pub overflow_add-at : goal.overflow_add-at
overflow_add-at c = omega (arith, end_within _ _ (rw c.in-Ok-None.field-0-is at c.in-Ok-None.ensures))

pub returns-in-Ok-Some : goal.returns-in-Ok-Some
returns-in-Ok-Some c =
    let xs = c.args.self.now.image.now in
    let r = c.in-Ok-Some.is ∙ ap {B = Result (Option Part) ImageFault} Ok c.in-Ok-Some.field-0-is in
    let e : rest c.args.self.now ≡ Ok (piece c.in-Ok-Some.part) ∷ pieces_from xs (Some (c.in_ok-at.at + c.size_of.result)) =
    rw c.size_of.ensures (items (goal.at.returns-in-Ok-Some c).After-next_part (Ok (Some c.in-Ok-Some.part)) r) in
    record { steps = e; goes = record { on = λ _. (tt, tt, fewer _ _ _ e); keeps = tt; rests = λ _. tt } }

pub returns-in-Ok-None : goal.returns-in-Ok-None
returns-in-Ok-None c =
    let xs = c.args.self.now.image.now in
    let r = c.in-Ok-None.is ∙ ap {B = Result (Option Part) ImageFault} Ok c.in-Ok-None.field-0-is in
    let e : rest c.args.self.now ≡ Err (Trailing (c.in_ok-at.at + 2)) ∷ pieces_from xs c.take.new.self =
    rw c.take.ensures.after (items (goal.at.returns-in-Ok-None c).After-next_part (Ok None) r ∙ some_behind c.in_ok-at.at xs c.if-at-self.true) in
    record { steps = e; goes = record { on = λ _. (tt, tt, fewer _ _ _ e); keeps = tt; rests = λ _. tt } }

pub returns-in-Ok-None-2-clause-steps : goal.returns-in-Ok-None-2-clause-steps
returns-in-Ok-None-2-clause-steps c =
    let r = c.in-Ok-None.is ∙ ap {B = Result (Option Part) ImageFault} Ok c.in-Ok-None.field-0-is in (
      items (goal.at.returns-in-Ok-None-2-clause-steps c).After-next_part (Ok None) r ∙ nothing_behind c.in_ok-at.at c.args.self.now.image.now c.if-at-self.false,
      ap (pieces_from c.args.self.now.image.now) c.take.ensures.after,
    )

pub returns-in-Err : goal.returns-in-Err
returns-in-Err c =
    let e : rest c.args.self.now ≡ Err c.in-Err.fault ∷ pieces_from c.args.self.now.image.now c.take.new.self =
    rw c.take.ensures.after (items (goal.at.returns-in-Err c).After-next_part (Err c.in-Err.fault) c.in-Err.is) in
    record { steps = e; goes = record { on = λ _. (tt, tt, fewer _ _ _ e); keeps = tt; rests = λ _. tt } }
