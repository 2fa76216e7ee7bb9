-- What grows in steps, over a row of ticks, and the largest of several that do.
use Rattle.std.specs.Prelude.{ℕ, zero, suc, ◌+◌, ◌*◌, max, List, [], ◌∷◌}
use Rattle.loads.specs.Params.{TaskParams}
use Rattle.loads.specs.Train.{upto}

-- The sum of the first i + 1 numbers, or of all where there are fewer.
unfoldable pub reached : List ℕ → ℕ → ℕ
reached [] i = 0
reached (x ∷ xs) zero = x
reached (x ∷ xs) (suc i) = x + reached xs i

-- The largest of the first i + 1 numbers, or of all where there are fewer.
unfoldable pub topped : List ℕ → ℕ → ℕ
topped [] i = 0
topped (x ∷ xs) zero = x
topped (x ∷ xs) (suc i) = max x (topped xs i)

-- What a task grows to within t ticks: its cost for each of the ticks a, a + T, a + 2 * T, .. up to t + J.
unfoldable pub grown : TaskParams → ℕ → ℕ → ℕ
grown x a t = x.cost * upto x.period (t + x.jitter) a
