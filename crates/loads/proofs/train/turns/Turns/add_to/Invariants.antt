use Rattle.std.proofs.Common.{◌≡◌, ℕ, ◌+◌, ◌<◌, min, drop}
use Rattle.loads.specs.Steps.{reached}
use Rattle.loads.specs.TrainRests.{gaps, counts}
use Rattle.loads.proofs.train.turns.Turns.add_to.Given as goal

-- The gaps and the work of the frames ahead, with what there is already, are the whole.
abbrev pub invariant-loop-f : goal.invariant-loop-f
invariant-loop-f l = record {
  gaps_left : l.off + gaps (drop l.f-index l.self.frames.now) ≡ l.start + gaps l.self.frames.now;
  work_left : (j : ℕ) → j < l.until
      → min (reached l.steps.added j + counts l.self.round (l.self.from + j) l.off (drop l.f-index l.self.frames.now)) 1099511627776
      ≡ min (reached l.fn.steps.added j + counts l.self.round (l.self.from + j) l.start l.self.frames.now) 1099511627776;
}
