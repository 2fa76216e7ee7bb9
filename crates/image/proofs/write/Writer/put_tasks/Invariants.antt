use Rattle.std.proofs.Common.{◌≡◌, take}
use Rattle.plan.specs.Ledger.{ledger}
use Rattle.format.specs.Writes.{tasks_bytes}
use Rattle.image.specs.Writer.{Wrote}
use Rattle.image.proofs.write.Writer.put_tasks.Given as goal

-- The tasks of the first channels are written.
abbrev pub invariant-loop-channel : goal.invariant-loop-channel
invariant-loop-channel g l = record { same : l.self.out.ghost_name ≡ l.fn.self.out.ghost_name; wrote : Wrote l.fn.self (tasks_bytes 0 (take l.channel (ledger l.plan))) l.self }
