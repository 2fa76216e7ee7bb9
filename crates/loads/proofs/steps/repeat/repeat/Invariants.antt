use Rattle.std.proofs.Common.{◌≡◌, ℕ, ◌+◌, ◌-◌, ◌^◌, ◌<◌, ◌≤◌, min, length, get_or}
use Rattle.loads.proofs.steps.repeat.repeat.Given as goal

-- Whatever the row is to have, the places so far have it.
abbrev pub invariant-loop-i : goal.invariant-loop-i
invariant-loop-i l = record {
  places : length l.row ≡ 256;
  filled : (f : ℕ → ℕ) → ((j : ℕ) → j < l.until → j < 256 → get_or l.fn.row j 0 ≡ min (f j) (2 ^ 40)) → ((j : ℕ) → l.until ≤ j → j < 256 → f j ≡ f (j - l.round) + l.more)
      → (j : ℕ) → j < l.i → j < 256 → get_or l.row j 0 ≡ min (f j) (2 ^ 40);
}
