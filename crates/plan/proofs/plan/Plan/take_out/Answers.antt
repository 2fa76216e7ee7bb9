-- The entries are taken out from the last to the first.
use Rattle.std.proofs.Common.{◌≡◌, ◌+◌, ◌-◌, map, take, set, length, None, sym, refl, ap, ◌∙◌, arith}
use Rattle.std.proofs.lemmas.List.{length-map, take_all}
use Rattle.plan.specs.Ledger.{Ledger, ledger}
use Rattle.plan.specs.Admissions.{placed}
use Rattle.plan.specs.Together.{put_all}
use Rattle.plan.proofs.PutTogether.{taken_out, placed_at}
use Rattle.plan.proofs.plan.Plan.take_out.Goals as goal

pub loop-n-init : goal.loop-n-init
loop-n-init g c = record {
  same = refl;
  left = λ o h e. let es = c.args.entries.now in e ∙ ap (put_all o) (sym (take_all (length es) (map placed es) (omega (arith, length-map es placed))));
}

pub loop-n-preserved : goal.loop-n-preserved
loop-n-preserved g c =
    let es = c.args.entries.now in
    let xs = map placed es in
    let n = c.loop-n.n - 1 in
    let x = c.index-entries-n.result in
    let at = placed_at es n x (omega (arith, c.loop-n.auto.n, c.loop-n-test.true)) c.index-entries-n.is in
    let one_less : c.loop-n.n ≡ n + 1 = omega (arith, c.loop-n-test.true) in
    record {
      same = c.loop-n.invariant.same;
      left = λ o h e.
          c.clear.ensures
          ∙ ap (λ y. set (ledger c.loop-n.self) y None) (sym (ap (λ y. y.0) c.index-entries-n.is))
          ∙ ap (λ (m : Ledger). set m x.0 None) (c.loop-n.invariant.left o h e ∙ ap (λ i. put_all o (take i xs)) one_less)
          ∙ taken_out o xs n (placed x) at.0 at.1 h;
    }
