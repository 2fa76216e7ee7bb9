use Rattle.std.proofs.Common.{◌≡◌, ℕ, ◌+◌, ◌*◌, ◌≤◌, drop}
use Rattle.theory.specs.Jobs.{All}
use Rattle.loads.specs.TrainRows.{begun, Settled}
use Rattle.loads.proofs.train.turns.Turns.growth.Given as goal

-- All frames are settled from a place on if those ahead are, and what those ahead add is the whole.
abbrev pub invariant-loop-f : goal.invariant-loop-f
invariant-loop-f l = record {
  near : l.still ≤ 255;
  small : l.more ≤ 10000000 * l.f-index;
  settled_left : (m : ℕ) → l.still ≤ m → All (Settled (l.self.from + m) (l.self.from + 255)) (drop l.f-index l.self.frames.now) → All (Settled (l.self.from + m) (l.self.from + 255)) l.self.frames.now;
  more_left : l.more + begun (l.self.from + 255) (drop l.f-index l.self.frames.now) ≡ begun (l.self.from + 255) l.self.frames.now;
}
