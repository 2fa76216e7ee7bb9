use Rattle.std.proofs.Common.{◌≡◌, ◌+◌, ◌*◌, ◌≤◌, drop}
use Rattle.loads.specs.TrainRests.{gaps, cost_within}
use Rattle.loads.proofs.train.within.Run.within_of.Given as goal

-- Each frame so far has added at most 10,000,000 to either sum, and what the frames ahead add makes the whole.
abbrev pub invariant-loop-f : goal.invariant-loop-f
invariant-loop-f l = record {
  off_most : l.off ≤ l.start + 10000000 * l.f-index;
  sum_most : l.sum ≤ 10000000 * l.f-index;
  gaps_left : l.off + gaps (drop l.f-index l.self.frames.now) ≡ l.start + gaps l.self.frames.now;
  cost_left : l.sum + cost_within l.off (drop l.f-index l.self.frames.now) ≡ cost_within l.start l.self.frames.now;
}
