use Rattle.std.proofs.Common.{◌≡◌, ℕ, ◌<◌, min, get_or, length}
use Rattle.theory.proofs.rows.cut_row.Given as goal

-- Below i each place is as in the uncut row, or beyond the last uncut place as there.
abbrev pub invariant-loop-i : goal.invariant-loop-i
invariant-loop-i l = record {
  places : length l.answers ≡ length l.fn.answers;
  cut : length l.fn.answers ≡ 256 → (j : ℕ) → j < l.i → get_or l.answers j 0 ≡ get_or l.fn.answers (min j l.last) 0;
}
