-- The ramp train: frames released one after another in a circle, also known as a generalized multiframe task.
use Rattle.std.specs.Prelude.{◌≡◌, ℕ, zero, suc, ◌+◌, ◌-◌, ◌*◌, ◌/◌, ◌%◌, ◌≤◌, max, Bool, false, cond, ◌&&◌, ◌||◌, List, [], ◌∷◌, ◌++◌, map, length, take, drop, pos, Ok, Err, Result, ◌==◌, nat_le, nat_lt}
use Rattle.theory.specs.Jobs.{Job, work, All}
use Rattle.theory.specs.Meaning.{Amounts, Meaning}
use Rattle.loads.specs.declared.refusal.Refusal.{Refusal}
use Rattle.loads.specs.declared.refusal.Refusal.TheVariants.{TrainFull}
use Rattle.loads.specs.declared.train.RampTrain.{RampTrain}
use Rattle.loads.specs.FixedVecs.{items_of, added}
use Rattle.loads.specs.Params.{FrameParams}
use Rattle.loads.specs.Making.{frame_params}

-- The cycle of a train: the sum of all gaps, after which the same frame can be released again.
unfoldable pub cycle : List FrameParams → ℕ
cycle [] = 0
cycle (f ∷ fs) = f.gap + cycle fs

-- The circle of frames begun at place k: the frames from place k to the last, and then those before place k.
unfoldable pub circle_from : {A : Type 0} → ℕ → List A → List A
circle_from k fs = drop k fs ++ take k fs

-- How many of the ticks a, a + c, a + 2 * c, .. are at most t.
abbrev pub upto : ℕ → ℕ → ℕ → ℕ
upto c t a = cond (nat_le a t) (1 + (t - a) / c) 0

-- How many of the ticks a, a + c, a + 2 * c, .. are below s: (s - a) / c, rounded up.
abbrev pub below : ℕ → ℕ → ℕ → ℕ
below c s a = cond (nat_lt a s) ((s - a + (c - 1)) / c) 0

-- Is t one of the ticks a, a + c, a + 2 * c, ..?
abbrev pub hits : ℕ → ℕ → ℕ → Bool
hits c t a = nat_le a t && (t - a) % c == 0

-- The sum of g f o over the frames f, where o is the tick at which f is released: the first frame at `off`, and each
-- other one as soon as the gap of the frame before it allows.
unfoldable pub sum_along : (FrameParams → ℕ → ℕ) → ℕ → List FrameParams → ℕ
sum_along g off [] = 0
sum_along g off (f ∷ fs) = g f off + sum_along g (off + f.gap) fs

-- The work due by tick t of frames released in this way, each of them again after every c ticks.
abbrev pub due_from : ℕ → ℕ → ℕ → List FrameParams → ℕ
due_from c t off fs = sum_along (λ f o. f.cost * upto c t (o + f.deadline)) off fs

-- The work released before tick s of frames released in the same way.
abbrev pub ready_from : ℕ → ℕ → ℕ → List FrameParams → ℕ
ready_from c s off fs = sum_along (λ f o. f.cost * below c s o) off fs

-- The cost of those frames f, released in the same way, that are released before tick limit f.
abbrev pub within : (FrameParams → ℕ) → ℕ → List FrameParams → ℕ
within limit off fs = sum_along (λ f o. cond (nat_lt o (limit f)) f.cost 0) off fs

-- Is tick t a deadline of frames released in the same way?
unfoldable pub mark_from : ℕ → ℕ → ℕ → List FrameParams → Bool
mark_from c t off [] = false
mark_from c t off (f ∷ fs) = hits c t (off + f.deadline) || mark_from c t (off + f.gap) fs

-- The largest of f 0, f 1, .. f (n - 1), and 0 where n is 0.
unfoldable pub largest_of : (ℕ → ℕ) → ℕ → ℕ
largest_of f zero = 0
largest_of f (suc n) = max (f n) (largest_of f n)

-- Does f hold of one of 0, 1, .. n - 1?
unfoldable pub any_of : (ℕ → Bool) → ℕ → Bool
any_of f zero = false
any_of f (suc n) = f n || any_of f n

-- A train's amounts. Any frame may be the first one released, so due and ready are the largest over the frames that
-- the circle can begin with, and a mark is a deadline in one of these circles. Each begins at tick 0 and is released
-- as early as the gaps allow. A job of a train can be interrupted after every tick, so nothing is held.
unfoldable pub train_amounts : List FrameParams → Amounts
train_amounts fs = record {
  due = λ t. largest_of (λ k. due_from (cycle fs) t 0 (circle_from k fs)) (length fs);
  held = λ t. 0;
  ready = λ s. largest_of (λ k. ready_from (cycle fs) s 0 (circle_from k fs)) (length fs);
  mark = λ t. any_of (λ k. mark_from (cycle fs) t 0 (circle_from k fs)) (length fs);
}

-- A job of frame f: released when it arrives, due the frame's deadline later, with at most the frame's cost as its
-- work, in pieces of 1 tick.
abbrev pub OfFrame : FrameParams → Job → Type 0
OfFrame f j = (j.arrival ≡ pos j.release) × (j.deadline ≡ j.release + f.deadline) × (work j ≤ f.cost) × All (λ p. p ≡ 1) j.pieces

-- The first job of the list, if there is one, is released at tick r or later.
abbrev pub FromTick : ℕ → List Job → Type 0
FromTick r [] = Unit {0}
FromTick r (j ∷ js) = r ≤ j.release

-- One job for each frame in turn, with at least the frame's gap to the next release, and after the last frame again
-- from the first. The list may stop anywhere; without frames it has no job.
abbrev pub InTurn : List FrameParams → List Job → Type 0
InTurn fs [] = Unit {0}
InTurn [] (j ∷ js) = ⊥
InTurn (f ∷ fs) (j ∷ js) = OfFrame f j × FromTick (j.release + f.gap) js × InTurn (fs ++ (f ∷ [])) js

-- What a train means: its amounts, and as permitted lists those that take the circle in turn, begun at any place.
abbrev pub train_meaning : List FrameParams → Meaning
train_meaning fs = record { amounts = train_amounts fs; Permits = λ js. (k : ℕ) × InTurn (circle_from k fs) js }

-- The frames that a train holds, in order.
abbrev pub frames_of : RampTrain → List FrameParams
frames_of r = map frame_params (items_of r.frames)

-- One more frame at the end of a train that holds `fs`: the answer, and the frames that it then holds. A train that
-- holds sixteen refuses and stays as it was.
abbrev pub pushed : List FrameParams → FrameParams → Result (Unit {0}) Refusal × List FrameParams
pushed fs f = added 16 TrainFull fs f

-- A train that holds `old` filled with `fs`: the answer, and the frames that it then holds. They replace what it held,
-- unless they are more than sixteen.
abbrev pub refilled : List FrameParams → List FrameParams → Result (Unit {0}) Refusal × List FrameParams
refilled old fs = cond (nat_le (length fs) 16) (Ok tt, fs) (Err TrainFull, old)

-- A train made of frames holds all of them in order, unless they are more than sixteen.
abbrev pub made_train : List FrameParams → Result (List FrameParams) Refusal
made_train fs = cond (nat_le (length fs) 16) (Ok fs) (Err TrainFull)

-- The frames of a train where making it may have refused.
abbrev pub train_made : Result RampTrain Refusal → Result (List FrameParams) Refusal
train_made (Ok r) = Ok (frames_of r)
train_made (Err e) = Err e
