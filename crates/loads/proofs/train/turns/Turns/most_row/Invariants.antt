use Rattle.std.proofs.Common.{◌≡◌, ℕ, ◌+◌, ◌<◌, min}
use Rattle.loads.specs.Train.{circle_from, largest_of}
use Rattle.loads.specs.Steps.{topped}
use Rattle.loads.specs.TrainRests.{counts}
use Rattle.loads.proofs.train.turns.Turns.most_row.Given as goal

abbrev pub invariant-loop-k : goal.invariant-loop-k
invariant-loop-k l = (i : ℕ) → i < l.until → min (topped l.tops.at i) 1099511627776
    ≡ min (largest_of (λ k. l.fn.self.base + counts l.fn.self.round (l.fn.self.from + i) 0 (circle_from k l.fn.self.frames.now)) l.k) 1099511627776
