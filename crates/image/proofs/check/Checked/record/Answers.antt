-- The record lies within the image.
use Rattle.std.proofs.Common.{[], arith}
use Rattle.format.specs.Records.{task_in}
use Rattle.format.specs.Decode.{tasks_in, frames_in}
use Rattle.format.proofs.TasksAt.{tasks_few, tasks_at}
use Rattle.image.specs.Whole.{records_of}
use Rattle.image.proofs.InOrder.{ordered}
use Rattle.image.proofs.check.Checked.record.Goals as goal

pub overflow_mul-n : goal.overflow_mul-n
overflow_mul-n c =
    let k = c.args.self.now in
    let rs = records_of k in
    omega (arith, c.requires, k.count, tasks_few k.image.now (tasks_in rs) (frames_in rs) (ordered k.image.now rs k.read))

pub chunk-requires : goal.chunk-requires
chunk-requires c =
    let k = c.args.self.now in
    let rs = records_of k in
    let t = tasks_at k.image.now (tasks_in rs) (frames_in rs) (ordered k.image.now rs k.read) c.args.n (task_in []) (omega (arith, k.count, c.requires)) in
    omega (arith, t.0)
