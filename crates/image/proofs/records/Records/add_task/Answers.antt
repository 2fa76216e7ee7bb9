-- Channels rise, so there are no more tasks than channels.
use Rattle.std.proofs.Common.{ap, ◌∙◌, arith}
use Rattle.format.specs.declared.before.Before.{Before}
use Rattle.format.specs.Records.{task_rec, task_in}
use Rattle.format.proofs.Passing.{passed_is, task_passes}
use Rattle.image.proofs.records.Records.add_task.Goals as goal

pub invariant_of-self : goal.invariant_of-self
invariant_of-self c =
    let r = task_rec (task_in c.args.bytes.now) in
    let a = c.args.self.now in
    let q = passed_is a.before c.in_ok-self.field-0 c.args.at r c.in_ok-self.ensures in
    let p = task_passes a.before c.args.at (task_in c.args.bytes.now) q.0 in
    let n = ap (λ (x : Before). x.least) q.1 in
    record {
      rising = omega (arith, p.rising, n, a.rising);
      channels = omega (arith, p.channel, n);
      frames = ap (λ (x : Before). x.frames) q.1 ∙ a.frames;
    }
