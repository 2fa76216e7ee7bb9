-- Frames with a rest each, as the code counts them.
use Rattle.std.specs.Prelude.{◌≡◌, ℕ, ◌+◌, ◌-◌, ◌*◌, ◌%◌, ◌<◌, cond, List, [], ◌∷◌, length, nat_lt, slice_index_or}
use Rattle.loads.specs.declared.train.rest.FrameRest.{FrameRest}
use Rattle.loads.specs.Params.{FrameParams}
use Rattle.loads.specs.Train.{upto}
use Rattle.loads.specs.Making.{frame_params}

abbrev pub params : FrameRest → FrameParams
params f = frame_params f.frame

-- Each rest is how many ticks past the frame's last deadline the last tick below t is, where each frame is released at
-- tick 0 and again after every c ticks.
abbrev pub EachRest : ℕ → ℕ → List FrameRest → Type 0
EachRest c t fs = (k : ℕ) (d : FrameRest) → k < length fs → (slice_index_or fs k d).rest ≡ (t - 1 - (slice_index_or fs k d).frame.deadline) % c

-- The sum of the gaps.
abbrev pub gaps : List FrameRest → ℕ
gaps [] = 0
gaps (f ∷ fs) = f.frame.gap + gaps fs

-- The cost of those that are released within their rests, the first one released at `off` and each other one as soon
-- as the gap of the one before it allows.
abbrev pub cost_within : ℕ → List FrameRest → ℕ
cost_within off [] = 0
cost_within off (f ∷ fs) = cond (nat_lt off f.rest) f.frame.cost 0 + cost_within (off + f.frame.gap) fs

-- The work by tick t of those, released in this way and each again after every c ticks, where a frame's rest is how many
-- ticks after its release it counts.
abbrev pub counts : ℕ → ℕ → ℕ → List FrameRest → ℕ
counts c t off [] = 0
counts c t off (f ∷ fs) = f.frame.cost * upto c t (off + f.rest) + counts c t (off + f.frame.gap) fs
