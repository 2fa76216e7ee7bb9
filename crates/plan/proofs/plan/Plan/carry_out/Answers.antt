-- The calls carried out one by one give the answers and the channels of the ledger, and the promise.
use Rattle.std.proofs.Common.{◌≡◌, refl, ◌∙◌, arith}
use Rattle.std.proofs.lemmas.List.{get_or-take, length-take}
use Rattle.plan.specs.Ledger.{guest}
use Rattle.plan.proofs.Turns.{at_start, turn, kept}
use Rattle.plan.proofs.plan.Plan.carry_out.Goals as goal

pub loop-n-init : goal.loop-n-init
loop-n-init g c = record { same = refl; so_far = at_start _ _ _ _ }

pub loop-n-preserved : goal.loop-n-preserved
loop-n-preserved g c =
    let same = c.loop-n.invariant.same in
    let n = length-take c.min-count.result c.args.calls.now in
    record {
      same = c.call.ensures.guest ∙ same;
      so_far = turn _ _ _ _ _ _ _ _ _ _ c.loop-n.invariant.so_far (omega (arith, n)) (omega (arith, n))
          (c.call-item.is ∙ get_or-take c.min-count.result _ c.loop-n.n _ (omega (arith, n))) (rw same at c.call.ensures.says) (rw same at c.call.ensures.channels);
    }

pub returns : goal.returns
returns g c =
    let e : c.loop-n.n ≡ c.min-count.result = omega (arith, length-take c.min-count.result c.args.calls.now) in
    let so = rw e at c.loop-n.invariant.so_far in
    record {
      count = c.min-count.ensures;
      guest = c.loop-n.invariant.same;
      says = so.answered;
      channels = so.stands;
      untouched = so.untouched;
      kept = kept _ (g.met.G.Load.lawful (guest c.args.self.now)) _ _ _ _ _ _ so;
    }
