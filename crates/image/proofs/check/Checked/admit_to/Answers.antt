-- A refused task is told at the offset of its record.
use Rattle.std.proofs.Common.{ℕ, ◌<◌, None, Err, length, sym, ap, ◌∙◌, arith}
use Rattle.plan.specs.Ledger.{ledger, guest}
use Rattle.plan.specs.Admissions.{InTurn}
use Rattle.plan.proofs.InTurn.{place_within}
use Rattle.format.specs.declared.fault.PlanFault.TheVariants.{Refused}
use Rattle.format.specs.Decode.{tasks_in, frames_in}
use Rattle.format.specs.Fills.{AdmittedTo, told_at}
use Rattle.format.proofs.TasksAt.{tasks_few}
use Rattle.image.specs.Whole.{records_of}
use Rattle.image.proofs.InOrder.{ordered, task_offset_is}
use Rattle.image.proofs.check.Checked.admit_to.Given.{Over}
use Rattle.image.proofs.check.Checked.admit_to.Goals as goal
use Rattle.image.proofs.check.Checked.admit_to.Goals.{In-Err}

-- Which task is refused, if one is.
within : (g : Over) (c : In-Err g) → c.in-Err.place < length (tasks_in (records_of c.args.self.now))
within g c =
    let ts = tasks_in (records_of c.args.self.now) in
    let p = place_within (g.G.Load.meaning (guest c.args.plan.now)) 0 None ts (ledger c.args.plan.now) (c.in-Err.place, c.in-Err.refusal) (sym (ap (λ (x : InTurn). x.0) c.in-Err.ensures.says)) in
    omega (arith, p.1)

pub overflow_mul-result : goal.overflow_mul-result
overflow_mul-result g c =
    let k = c.args.self.now in
    let rs = records_of k in
    omega (arith, within g (goal.at.overflow_mul-result g c).In-Err, tasks_few k.image.now (tasks_in rs) (frames_in rs) (ordered k.image.now rs k.read))

pub returns-in-Ok-clause-says : goal.returns-in-Ok-clause-says
returns-in-Ok-clause-says g c = ap (told_at (records_of c.args.self.now)) c.in-Ok.ensures.says

pub returns-in-Err-clause-says : goal.returns-in-Err-clause-says
returns-in-Err-clause-says g c =
    let k = c.args.self.now in
    let at = task_offset_is k.image.now (records_of k) k.read c.in-Err.place (within g (goal.at.returns-in-Err-clause-says g c).In-Err) in
    ap (λ (n : ℕ). let x : AdmittedTo = (Err (Refused c.in-Err.refusal n), ledger c.admit_tasks.new.plan) in x) (sym at)
    ∙ ap (told_at (records_of k)) c.in-Err.ensures.says
