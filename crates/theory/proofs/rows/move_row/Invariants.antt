use Rattle.std.proofs.Common.{◌≡◌, ℕ, ◌<◌, ◌≤◌, ◌∷◌, get_or, length}
use Rattle.theory.proofs.rows.move_row.Given as goal

-- Below i each place has what stands there in the row behind a 0, from i on the row is as it was, and what is to stand at
-- i is carried.
abbrev pub invariant-loop-i : goal.invariant-loop-i
invariant-loop-i l = record {
  places : length l.answers ≡ length l.fn.answers;
  carried : l.before ≡ get_or (0 ∷ l.fn.answers) l.i 0;
  still : (j : ℕ) → l.i ≤ j → get_or l.answers j 0 ≡ get_or l.fn.answers j 0;
  moved : length l.fn.answers ≡ 256 → (j : ℕ) → j < l.i → get_or l.answers j 0 ≡ get_or (0 ∷ l.fn.answers) j 0;
}
