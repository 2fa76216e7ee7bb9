-- Up to 100,000,000 the row is the uncut one, and each turn writes one more place beyond.
use Rattle.std.proofs.Common.{◌≡◌, ◌-◌, ◌<◌, ◌≢◌, min, get_or, set, length, refl, ap, ◌∙◌, inl, inr, subst, arith, length-set, get_or-set_same, get_or-set_other}
use Rattle.std.proofs.lemmas.Bool.{cases_lt}
use Rattle.theory.proofs.RowPlaces.{cut_by_place, cut_whole}
use Rattle.theory.proofs.rows.cut_row.Goals as goal

pub loop-i-init : goal.loop-i-init
loop-i-init c = record {
  places = refl;
  cut = λ z j h. ap (λ k. get_or c.args.answers.now k 0) (let e : j ≡ min j c.min-last.result = omega arith in e);
}

pub loop-i-preserved : goal.loop-i-preserved
loop-i-preserved c =
    let i = c.loop-i.i in
    let l = c.min-last.result in
    let row = c.loop-i.answers in
    record {
      places = omega (arith, length-set row i (get_or row l 0), c.loop-i.invariant.places);
      cut = λ z j h. elim (cases_lt j i) [
        | inl y ↦ (let n : j ≢ i = omega arith in rw get_or-set_other (c.loop-i.invariant.cut z j y))
        | inr y ↦ (
            let q : i ≡ j = omega arith in
            let n : i < length row = omega (arith, z, c.loop-i.invariant.places) in
            let k : min l l ≡ min j l = omega arith in
            let s : get_or row l 0 ≡ get_or c.args.answers.now (min j l) 0 = c.loop-i.invariant.cut z l (omega arith) ∙ ap (λ x. get_or c.args.answers.now x 0) k in
            subst (λ x. get_or (set row i (get_or row l 0)) x 0 ≡ get_or c.args.answers.now (min j l) 0) q (rw get_or-set_same s)
            )
      ];
    }

pub returns-clause-places : goal.returns-clause-places
returns-clause-places c =
    let l = c.min-last.result in
    cut_by_place c.args.from c.args.answers.now c.loop-i.answers (c.loop-i.invariant.places ∙ c.told-answers)
    (λ j h. c.loop-i.invariant.cut c.told-answers j (omega arith) ∙ ap (λ k. get_or c.args.answers.now k 0) (let e : min j l ≡ min j (100000000 - min c.args.from 100000000) = omega arith in e))

pub returns-clause-row : goal.returns-clause-row
returns-clause-row c = λ f e. cut_whole f c.args.from c.min-last.result c.args.answers.now e (omega arith) c.loop-i.answers c.loop-i.invariant.places (λ j h. c.loop-i.invariant.cut c.told-answers j (omega arith))
