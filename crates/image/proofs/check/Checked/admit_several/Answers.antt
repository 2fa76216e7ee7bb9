-- What is admitted are the tasks of the image.
use Rattle.std.proofs.Common.{List, None, ap, ◌∙◌}
use Rattle.plan.specs.Ledger.{ledger, guest}
use Rattle.plan.specs.Admissions.{Placed, in_turn}
use Rattle.image.proofs.check.Checked.admit_several.Goals as goal

pub returns-clause-says : goal.returns-clause-says
returns-clause-says g c =
    c.admit_all.ensures.says ∙ ap (λ (ts : List Placed). in_turn (g.G.Load.meaning (guest c.args.plan.now)) 0 None ts (ledger c.args.plan.now)) c.take_tasks.ensures
