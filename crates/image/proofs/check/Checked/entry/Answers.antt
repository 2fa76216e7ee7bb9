-- What the record holds is the task, and its ranges were checked.
use Rattle.std.proofs.Common.{[], sym, ap, ◌∙◌, subst, arith}
use Rattle.loads.specs.Params.{TaskRanges}
use Rattle.plan.specs.Admissions.{placed}
use Rattle.format.specs.Records.{task_in, params_in}
use Rattle.format.specs.Decode.{tasks_in, frames_in}
use Rattle.format.proofs.TasksAt.{tasks_at, ranges_at}
use Rattle.image.specs.Whole.{records_of}
use Rattle.image.proofs.InOrder.{ordered}
use Rattle.image.proofs.check.Checked.entry.Goals as goal

pub entry_in-requires : goal.entry_in-requires
entry_in-requires c =
    let k = c.args.self.now in
    let rs = records_of k in
    let e = ranges_at k.image.now (tasks_in rs) (frames_in rs) (ordered k.image.now rs k.read) c.args.n (task_in []) (omega (arith, k.count, c.requires)) in
    subst (λ xs. TaskRanges (params_in xs)) (sym c.record.ensures) e

pub returns : goal.returns
returns c =
    let k = c.args.self.now in
    let rs = records_of k in
    let e = tasks_at k.image.now (tasks_in rs) (frames_in rs) (ordered k.image.now rs k.read) c.args.n (placed c.entry_in.result) (omega (arith, k.count, c.requires)) in
    c.entry_in.ensures ∙ ap task_in c.record.ensures ∙ sym e.1
