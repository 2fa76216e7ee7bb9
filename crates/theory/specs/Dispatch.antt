-- The dispatcher: it starts at tick 0, and in each tick one job runs for one tick, or none.
use Rattle.std.specs.Prelude.{ℕ, zero, suc, ◌+◌, ◌-◌, ◌<◌, Bool, false, cond, ◌&&◌, List, [], ◌∷◌, length, replicate, nat_le, nat_lt, slice_index, slice_set}
use Rattle.std.proofs.Math.Option.{Option, some, none}
use Rattle.theory.specs.Jobs.{Job, job, work}

-- After n ticks of a job with these pieces, is a piece begun and not ended?
abbrev pub inside : List ℕ → ℕ → Bool
inside [] n = false
inside (p ∷ ps) n = cond (nat_lt n p) (nat_lt 0 n) (inside ps (n - p))

-- The least place below n at which the test holds.
abbrev pub first : (ℕ → Bool) → ℕ → Option ℕ
first test zero = none
first test (suc n) = elim (first test n) [ some i ↦ some i | none ↦ cond (test n) (some n) none ]

-- Of the places below n at which the test holds, the one with the least key; on a tie the lowest.
abbrev pub earliest : (ℕ → Bool) → (ℕ → ℕ) → ℕ → Option ℕ
earliest test key zero = none
earliest test key (suc n) = elim (earliest test key n) [
  | some i ↦ cond (test n && nat_lt (key n) (key i)) (some n) (some i)
  | none ↦ cond (test n) (some n) none
]

-- In what follows `js` are the jobs, and `ss` has the ticks served so far to each of them.

-- Job i is inside a piece.
abbrev pub is_inside : List Job → List ℕ → ℕ → Bool
is_inside js ss i = inside (job js i).pieces (slice_index ss i)

-- Job i is released by tick t and unfinished.
abbrev pub is_waiting : ℕ → List Job → List ℕ → ℕ → Bool
is_waiting t js ss i = nat_le (job js i).release t && nat_lt (slice_index ss i) (work (job js i))

-- The job that runs in tick t: the one inside a piece, which runs to its end, or else the released
-- unfinished job with the earliest deadline, on a tie the one listed first.
abbrev pub pick : ℕ → List Job → List ℕ → Option ℕ
pick t js ss = elim (first (is_inside js ss) (length js)) [
  | some i ↦ some i
  | none ↦ earliest (is_waiting t js ss) (λ i. (job js i).deadline) (length js)
]

-- One tick is served to the job that was picked, if any.
abbrev pub serve : List ℕ → Option ℕ → List ℕ
serve ss none = ss
serve ss (some i) = slice_set ss i (slice_index ss i + 1)

-- The ticks served to each job after t ticks.
abbrev pub served : List Job → ℕ → List ℕ
served js zero = replicate (length js) 0
served js (suc t) = serve (served js t) (pick t js (served js t))

-- Job i is late: unfinished when as many ticks as its deadline says have passed.
abbrev pub Late : List Job → ℕ → Type 0
Late js i = slice_index (served js (job js i).deadline) i < work (job js i)
