-- A change is weighed by the verdict on the changed plan, and put back where that refuses.
use Rattle.std.proofs.Common.{Err, ap, ◌∙◌}
use Rattle.theory.proofs.BesideLaws.{beside_laws}
use Rattle.loads.specs.Ranged.{table_laws}
use Rattle.plan.specs.Ledger.{guest}
use Rattle.plan.proofs.Weigh.{judged_put, restored_put}
use Rattle.plan.proofs.plan.Plan.change.Goals as goal

pub returns-in_ok-put-in-Err-clause-says : goal.returns-in_ok-put-in-Err-clause-says
returns-in_ok-put-in-Err-clause-says g c =
    let h = beside_laws _ _ (table_laws c.put.new.self) (g.met.G.Load.lawful (guest c.args.self.now)) in
    ap Err c.into.ensures ∙ judged_put _ _ _ c.requires.channel _ _ _ _ c.put.ensures h c.in-Err.ensures

pub returns-in_ok-put-in-Err-clause-channels : goal.returns-in_ok-put-in-Err-clause-channels
returns-in_ok-put-in-Err-clause-channels g c = restored_put _ _ _ c.requires.channel _ _ _ _ _ c.put.ensures c.requires.old c.put-in-Err.ensures

pub returns-in-Ok-clause-says : goal.returns-in-Ok-clause-says
returns-in-Ok-clause-says g c =
    let h = beside_laws _ _ (table_laws c.put.new.self) (g.met.G.Load.lawful (guest c.args.self.now)) in
    judged_put _ _ _ c.requires.channel _ _ _ _ c.put.ensures h c.in-Ok.ensures
