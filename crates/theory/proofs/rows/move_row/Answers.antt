-- Each turn moves one more place on.
use Rattle.std.proofs.Common.{◌≡◌, suc, ◌+◌, ◌<◌, ◌≢◌, ◌∷◌, get_or, length, refl, ap, ◌∙◌, inl, inr, arith, length-set, get_or-set_same, get_or-set_other}
use Rattle.std.proofs.lemmas.Bool.{cases_lt}
use Rattle.theory.proofs.RowPlaces.{moved_by_place, moved_whole}
use Rattle.theory.proofs.rows.move_row.Goals as goal

pub loop-i-init : goal.loop-i-init
loop-i-init c = record {
  places = refl;
  carried = refl;
  still = λ j h. refl;
  moved = λ z j h. absurd (omega arith);
}

pub loop-i-preserved : goal.loop-i-preserved
loop-i-preserved c =
    let i = c.loop-i.i in
    let answers = c.loop-i.answers in
    let before = c.args.answers.now in
    record {
      places = rw length-set c.loop-i.invariant.places;
      carried = (let q : suc i ≡ i + 1 = omega arith in c.loop-i.invariant.still i (omega arith) ∙ ap (λ u. get_or (0 ∷ before) u 0) q);
      still = λ j h. (let n : j ≢ i = omega arith in rw get_or-set_other (c.loop-i.invariant.still j (omega arith)));
      moved = λ z j h. elim (cases_lt j i) [
        | inl y ↦ (let n : j ≢ i = omega arith in rw get_or-set_other (c.loop-i.invariant.moved z j y))
        | inr y ↦ (
            let q : i ≡ j = omega arith in
            let n : i < length answers = omega (arith, z, c.loop-i.invariant.places) in
            rw (← q, get_or-set_same) (omega (arith, c.loop-i.invariant.carried))
            )
      ];
    }

pub returns-clause-places : goal.returns-clause-places
returns-clause-places c =
    let before = c.args.answers.now in
    let moved = c.loop-i.invariant.moved c.told-answers in
    moved_by_place before c.loop-i.answers c.told-answers
    (c.loop-i.invariant.places ∙ c.told-answers)
    (moved 0 (omega arith))
    (λ j h. let q : j + 1 ≡ suc j = omega arith in moved (j + 1) (omega arith) ∙ ap (λ u. get_or (0 ∷ before) u 0) q)

pub returns-clause-row : goal.returns-clause-row
returns-clause-row c = λ f z e.
    let before = c.args.answers.now in
    let moved = c.loop-i.invariant.moved c.told-answers in
    moved_whole f before c.loop-i.answers z e
    (c.loop-i.invariant.places ∙ c.told-answers)
    (moved 0 (omega arith))
    (λ j h. let q : j + 1 ≡ suc j = omega arith in moved (j + 1) (omega arith) ∙ ap (λ u. get_or (0 ∷ before) u 0) q)
