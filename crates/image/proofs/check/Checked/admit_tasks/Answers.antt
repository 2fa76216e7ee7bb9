-- Without tasks nothing changes.
use Rattle.std.proofs.Common.{◌≡◌, [], None, List, sym, ap, arith}
use Rattle.std.proofs.lemmas.List.{nil_from_length}
use Rattle.plan.specs.Ledger.{ledger, guest}
use Rattle.plan.specs.Admissions.{Placed, in_turn}
use Rattle.plan.proofs.Turns.{kept_more}
use Rattle.format.specs.Decode.{tasks_in}
use Rattle.image.specs.Whole.{records_of}
use Rattle.image.proofs.check.Checked.admit_tasks.Goals as goal

pub returns-in-0-clause-says : goal.returns-in-0-clause-says
unfolding in_turn
returns-in-0-clause-says g c =
    let k = c.args.self.now in
    let none : tasks_in (records_of k) ≡ [] = nil_from_length (tasks_in (records_of k)) (omega (arith, k.count, c.in-0)) in
    ap (λ (ts : List Placed). in_turn (g.G.Load.meaning (guest c.args.plan.now)) 0 None ts (ledger c.args.plan.now)) (sym none)

pub returns-in-0-clause-kept : goal.returns-in-0-clause-kept
returns-in-0-clause-kept g c = λ before e. ([], kept_more (g.G.Load.meaning (guest c.args.plan.now)) (g.met.G.Load.lawful (guest c.args.plan.now)) before [] (ledger c.args.plan.now) e)
