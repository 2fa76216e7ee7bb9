-- The first frame begins behind the tasks.
use Rattle.std.proofs.Common.{sym, ap, ◌∙◌, ◌*◌, arith}
use Rattle.format.specs.Decode.{tasks_in, frames_in}
use Rattle.format.proofs.TasksAt.{tasks_few}
use Rattle.image.specs.Whole.{records_of}
use Rattle.image.proofs.InOrder.{ordered, first_frame_is}
use Rattle.image.proofs.check.Checked.first_frame.Goals as goal

pub overflow_mul-result : goal.overflow_mul-result
overflow_mul-result c =
    let k = c.args.self.now in
    let rs = records_of k in
    omega (arith, k.count, tasks_few k.image.now (tasks_in rs) (frames_in rs) (ordered k.image.now rs k.read))

pub returns : goal.returns
returns c =
    let k = c.args.self.now in
    ap (λ n. 37 * n) k.count ∙ sym (first_frame_is k.image.now (records_of k) k.read)
