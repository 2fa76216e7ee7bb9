use Rattle.std.proofs.Common.{◌≡◌, take}
use Rattle.format.proofs.WriteTurns.{of_frames}
use Rattle.image.specs.Writer.{Wrote}
use Rattle.image.proofs.write.Writer.put_frames.Given as goal

-- The first frames are written.
abbrev pub invariant-loop-frame : goal.invariant-loop-frame
invariant-loop-frame l = record { same : l.self.out.ghost_name ≡ l.fn.self.out.ghost_name; wrote : Wrote l.fn.self (of_frames (take l.frame-index l.frames)) l.self }
