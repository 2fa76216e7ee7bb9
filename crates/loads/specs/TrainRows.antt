-- What a train counts for a row of ticks.
use Rattle.std.specs.Prelude.{ℕ, ◌+◌, ◌-◌, ◌*◌, ◌/◌, ◌<◌, ◌≤◌, ◌⊎◌, cond, nat_le, List, length, slice_index_or}
use Rattle.std.specs.List.{sum_by}
use Rattle.loads.specs.declared.train.rest.FrameRest.{FrameRest}
use Rattle.loads.specs.declared.train.rows.Counted.{Counted}
use Rattle.loads.specs.declared.train.rows.Counted.TheVariants.{Due, Ready}
use Rattle.loads.specs.Params.{FrameParams}
use Rattle.loads.specs.TrainTally.{falls, comes}

-- How many ticks after its release a frame's work counts.
abbrev pub lag : Counted → FrameParams → ℕ
lag Due = falls
lag Ready = comes

-- The last of the ticks a, a + c, a + 2 * c, .. up to w, or a where it comes after w.
abbrev pub since : ℕ → ℕ → ℕ → ℕ
since c w a = a + (w - a) / c * c

-- No frame has a rest above 100,000,000.
abbrev pub EachSoon : List FrameRest → Type 0
EachSoon fs = (k : ℕ) (d : FrameRest) → k < length fs → (slice_index_or fs k d).rest ≤ 100000000

-- The cost of the frames that come to count by tick t, where each is released at tick 0.
abbrev pub begun : ℕ → List FrameRest → ℕ
begun t fs = sum_by (λ f. cond (nat_le f.rest t) f.frame.cost 0) fs

-- The frame comes to count by tick t, or else only after tick u.
abbrev pub Settled : ℕ → ℕ → FrameRest → Type 0
Settled t u f = (f.rest ≤ t) ⊎ (u < f.rest)
