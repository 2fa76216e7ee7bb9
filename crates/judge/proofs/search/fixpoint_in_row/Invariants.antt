use Rattle.std.proofs.Common.{◌≡◌, ◌+◌}
use Rattle.judge.proofs.RowSteps.{Open}
use Rattle.judge.proofs.search.fixpoint_in_row.Given as goal

-- `ready` is not below the tick reached, and it has no fixed point among the ticks passed.
abbrev pub invariant-loop-ready : goal.invariant-loop-ready
invariant-loop-ready g l = (l.at ≡ l.w + l.ready-index) × Open (g.L.Load.meaning l.load).amounts l.w l.at
