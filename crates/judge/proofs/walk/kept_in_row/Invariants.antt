use Rattle.std.proofs.Common.{ℕ, ◌+◌, ◌-◌, ◌≤◌}
use Rattle.theory.specs.Meaning.{claim}
use Rattle.judge.proofs.walk.kept_in_row.Given as goal

-- From `kept` on no claim exceeds its tick.
abbrev pub invariant-loop-kept : goal.invariant-loop-kept
invariant-loop-kept g l =
    (l.from ≤ l.kept) × (l.kept ≤ l.t + 1) × ((v : ℕ) → l.kept ≤ v → v ≤ l.t → claim (g.L.Load.meaning l.load).amounts v ≤ v)

abbrev pub decreases-loop-kept : goal.decreases-loop-kept
decreases-loop-kept g l = l.kept - l.from
