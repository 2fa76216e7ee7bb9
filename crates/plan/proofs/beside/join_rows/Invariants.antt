use Rattle.std.proofs.Common.{◌≡◌, ℕ, length}
use Rattle.theory.specs.Meaning.{answered}
use Rattle.theory.specs.Rows.{row}
use Rattle.theory.proofs.RowPlaces.{Written}
use Rattle.plan.proofs.beside.join_rows.Given as goal

-- The first i places hold what is made of the two.
abbrev pub invariant-loop-i : goal.invariant-loop-i
invariant-loop-i g l = record {
  places : length l.joined ≡ 256;
  written : (f k h : ℕ → ℕ) (w : ℕ) → ((t r : ℕ) → goal.F-post g l.join (answered f t) (answered k t) r → r ≡ answered h t)
      → l.a ≡ row f w → l.b ≡ row k w → Written h w l.joined l.i;
}
