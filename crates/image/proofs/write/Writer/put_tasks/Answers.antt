-- The loop over the channels writes the records of the filled ones, by rising channel.
use Rattle.std.proofs.Common.{length, take, sym, ap, ◌∙◌, subst, arith, length-append}
use Rattle.loads.specs.Channels.{content}
use Rattle.plan.specs.Ledger.{ledger}
use Rattle.format.specs.Records.{task_bytes}
use Rattle.format.specs.Encode.{placed_in}
use Rattle.format.specs.Writes.{tasks_bytes}
use Rattle.format.proofs.WriteTurns.{task_more, none_more, more_room, length_task}
use Rattle.image.specs.declared.write.Writer.{Writer}
use Rattle.image.specs.Writer.{Wrote}
use Rattle.image.proofs.Writing.{wrote_then, wrote_as}
use Rattle.image.proofs.write.Writer.put_tasks.Goals as goal
use Rattle.image.proofs.write.Writer.put_tasks.Goals.{in-Ok, in_default}

pub put_task-requires : goal.put_task-requires
put_task-requires g c =
    let t = c.args.plan.now.loads.first in
    let i = c.loop-channel.channel in
    let k = content c.in-Ok.entry in
    let n = length-append (tasks_bytes 0 (take i (ledger c.args.plan.now))) (task_bytes (placed_in i k)) in
    omega (
      arith,
      c.loop-channel.invariant.wrote.at,
      c.loop-channel.invariant.wrote.same_length,
      c.requires,
      ap length (task_more t i c.loop-channel-test.true k c.in-Ok.ensures),
      n,
      length_task i k c.in-Ok.entry.sixteen,
      more_room t i c.loop-channel-test.true,
    )

pub loop-channel-preserved : goal.loop-channel-preserved
loop-channel-preserved g c =
    let t = c.args.plan.now.loads.first in
    let i = c.loop-channel.channel in
    let v = c.loop-channel.invariant in
    elim c.match-read.branch [
      | in-Ok w ↦ record {
        same = ap (λ (s : Writer). s.out.ghost_name) w.self-is ∙ w.put_task.ensures.same_buffer ∙ v.same;
        wrote = wrote_as (subst (Wrote c.args.self.now _) (sym w.self-is) (wrote_then v.wrote w.put_task.ensures.wrote)) (sym (task_more t i c.loop-channel-test.true (content w.in-Ok.entry) w.in-Ok.ensures));
      }
      | in_default w ↦ record {
        same = ap (λ (s : Writer). s.out.ghost_name) w.self-is ∙ v.same;
        wrote = wrote_as (subst (Wrote c.args.self.now _) (sym w.self-is) v.wrote) (sym (none_more t i c.loop-channel-test.true w.in_default.field-0 w.in_default.ensures));
      }
    ]
