use Rattle.std.proofs.Common.{◌≡◌}
use Rattle.theory.specs.Verdict.{look_below}
use Rattle.judge.proofs.look.audit.Given as goal

-- The look at the ticks below t, which are still ahead, finds what the look at all below the busy period finds.
abbrev pub invariant-loop-t : goal.invariant-loop-t
invariant-loop-t g l = look_below (g.L.Load.meaning l.load).amounts l.t ≡ look_below (g.L.Load.meaning l.load).amounts l.busy
