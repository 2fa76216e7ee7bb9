use Rattle.std.proofs.Common.{◌≡◌, ◌+◌, ◌-◌, ◌≤◌, ◌⊎◌, get_or, inl, inr, subst, arith}
use Rattle.std.proofs.lemmas.Bool.{cases_lt}
use Rattle.theory.specs.Meaning.{claim}
use Rattle.judge.proofs.RowSteps.{kept_at}
use Rattle.judge.proofs.walk.kept_in_row.Goals as goal
use Rattle.judge.proofs.walk.kept_in_row.Goals.{else-due-gt0-via-then-due-gt0+else-saturating_add-kept, else-due-gt0-via-else-due-gt0}

pub loop-kept-preserved : goal.loop-kept-preserved
loop-kept-preserved g c =
    let m = (g.L.Load.meaning c.args.load.now).amounts in
    let from = c.saturating_sub-from.result in
    let last = c.loop-kept.kept - 1 in
    let o : (get_or c.due_row-due_row.result (last - from) 0 ≡ 0) ⊎ (get_or c.due_row-due_row.result (last - from) 0 + get_or c.held_row-held_row.result (last - from) 0 ≤ last) =
    elim c.else-due-gt0.branch [
      | else-due-gt0-via-then-due-gt0+else-saturating_add-kept w ↦ inr (omega (arith, w.saturating_add.ensures, w.if-saturating_add-kept.false))
      | else-due-gt0-via-else-due-gt0 w ↦ inl (omega (arith, w.if-due-gt0.false))
    ] in
    let k : claim m last ≤ last =
    kept_at m (g.met.L.Load.lawful c.args.load.now).rules c.args.t from last c.due_row-due_row.result c.held_row-held_row.result c.due_row-due_row.ensures c.held_row-held_row.ensures
    c.requires.within c.requires.uncut (omega arith) (omega arith) (omega (arith, c.saturating_sub-from.ensures)) o in (
      omega arith,
      omega arith,
      λ v b h. elim (cases_lt last v) [
        | inl y ↦ c.loop-kept.invariant.2 v (omega arith) h
        | inr y ↦ (let e : last ≡ v = omega arith in subst (λ x. claim m x ≤ x) e k)
      ],
    )
