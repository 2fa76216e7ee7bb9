use Rattle.judge.proofs.Steps.{Going, left}
use Rattle.judge.proofs.walk.judge.Given as goal

-- The walk stands where it may, and what is left to look at decides the verdict.
abbrev pub invariant-loop-next : goal.invariant-loop-next
invariant-loop-next g l = Going (g.L.Load.meaning l.load).amounts l.busy l.next

abbrev pub decreases-loop-next : goal.decreases-loop-next
decreases-loop-next g l = left l.next
