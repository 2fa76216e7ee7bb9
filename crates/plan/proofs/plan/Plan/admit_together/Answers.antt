-- Where one is refused, those before it are taken out again.
use Rattle.plan.specs.Ledger.{ledger, guest}
use Rattle.plan.proofs.AtOnce.{none_stays}
use Rattle.plan.proofs.plan.Plan.admit_together.Goals as goal

pub returns-in-Err-clause-says : goal.returns-in-Err-clause-says
returns-in-Err-clause-says g c =
    rw c.in-Err.is (none_stays (g.G.Load.meaning (guest c.args.self.now)) (ledger c.args.self.now) (ledger c.admit_last-answer.new.self) (ledger c.take_out.new.self) c.args.entries.now (c.in-Err.place, c.in-Err.field-0-1) c.in-Err.ensures.says c.take_out.ensures.says)
