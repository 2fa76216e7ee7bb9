use Rattle.std.proofs.Common.{◌≡◌, ℕ, ◌+◌, ◌-◌, ◌*◌, ◌<◌, min}
use Rattle.loads.specs.Train.{upto}
use Rattle.loads.specs.Steps.{reached}
use Rattle.loads.proofs.steps.Steps.add.Given as goal

-- What the steps still to be taken add to what it has grown to is what is wanted.
abbrev pub invariant-loop-at : goal.invariant-loop-at
invariant-loop-at l = (i : ℕ) → i < l.until
    → min (reached l.self.added i + l.cost * upto l.period i l.at) 1099511627776 ≡ min (reached l.fn.self.added i + l.cost * upto l.period (l.from + i) l.first) 1099511627776

abbrev pub decreases-loop-at : goal.decreases-loop-at
decreases-loop-at l = l.until - l.at
