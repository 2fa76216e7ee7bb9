-- The loop over the parts reads the records of the image, up to the first fault.
use Rattle.std.proofs.Common.{◌≡◌, List, [], ◌∷◌, Ok, sym, ap, ◌∙◌, subst}
use Rattle.loads.specs.Params.{FrameParams}
use Rattle.loads.specs.Train.{frames_of}
use Rattle.format.specs.declared.before.Before.{Before}
use Rattle.format.specs.Records.{start}
use Rattle.format.specs.Parts.{piece, seen}
use Rattle.format.proofs.Items.{Item, whole_given}
use Rattle.format.proofs.Reading.{Reading, reading_start}
use Rattle.image.specs.Parts.{rest}
use Rattle.image.proofs.Adding.{SoFar, record_read, whole}
use Rattle.image.proofs.check.whole.check.Goals as goal
use Rattle.image.proofs.check.whole.check.Goals.{In_ok-part}

pub loop-part-init : goal.loop-part-init
loop-part-init c =
    let xs = c.args.image.now in
    let r = c.new-records.ensures in
    let is = rest c.into_iter-part-iterator.result in
    let all = sym (ap rest c.into_iter-part-iterator.ensures.into_iter_gives ∙ c.new-part-items.ensures) in
    record {
      tasks = [];
      count = r.tasks;
      reading = subst (λ (b : Before). Reading xs b [] (frames_of c.new-records.result.train) (rest c.into_iter-part-iterator.result)) (sym r.before)
          (subst (λ (fs : List FrameParams). Reading xs start [] fs (rest c.into_iter-part-iterator.result)) (sym r.frames)
          (subst (λ (is : List Item). Reading xs start [] [] is) all (reading_start xs)));
    }

-- The part that a turn gives is the first of those that were left.
given : (c : In_ok-part) → rest c.loop-part.part-iterator ≡ Ok (piece c.in_ok-part.field-0) ∷ rest c.next.new.self
given c = c.in-Some.ensures.steps ∙ ap (λ x. seen x ∷ rest c.next.new.self) c.in_ok-part.was

pub add-requires : goal.add-requires
add-requires c =
    let s = c.loop-part.part-iterator in
    whole_given s.image.now s.at (piece c.in_ok-part.field-0) (rest c.next.new.self) (given (goal.at.add-requires c).In_ok-part)

pub loop-part-preserved : goal.loop-part-preserved
loop-part-preserved c =
    let a = c.loop-part.records in
    record_read c.args.image.now a c.add.new.self (piece c.in_ok-part.field-0) (rest c.next.new.self)
    (subst (λ (is : List Item). SoFar c.args.image.now a.before a.tasks (frames_of a.train) is) (given (goal.at.loop-part-preserved c).In_ok-part) c.loop-part.invariant)
    c.in_ok-add.ensures

pub invariant_of-result : goal.invariant_of-result
invariant_of-result c =
    let k = whole c.args.image.now c.loop-part.records.before c.loop-part.records.tasks (frames_of c.loop-part.records.train)
    (subst (λ (is : List Item). SoFar c.args.image.now c.loop-part.records.before c.loop-part.records.tasks (frames_of c.loop-part.records.train) is) c.in-None.ensures.steps.0 c.loop-part.invariant) in
    record { read = k.read; count = k.count; frames = k.frames }
