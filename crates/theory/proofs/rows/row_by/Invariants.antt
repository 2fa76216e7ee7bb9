use Rattle.std.proofs.Common.{◌≡◌, ℕ, length}
use Rattle.theory.specs.Rows.{Asks}
use Rattle.theory.proofs.RowPlaces.{Written}
use Rattle.theory.proofs.rows.row_by.Given as goal

-- The places below i are written.
abbrev pub invariant-loop-i : goal.invariant-loop-i
invariant-loop-i g l = record {
  places : length l.answers ≡ 256;
  written : (f : ℕ → ℕ) → Asks g.F.Fn l.question f → Written f l.from l.answers l.i;
}
