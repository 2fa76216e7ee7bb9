-- The ranges of frames, kept when frames are taken in a circle.
use Rattle.std.specs.Prelude.{ℕ, ◌≤◌, zero, suc, List, [], ◌∷◌, ◌++◌, map, length, take, drop}
use Rattle.std.proofs.lemmas.List.{length-map}
use Rattle.theory.specs.Jobs.{All}
use Rattle.loads.specs.declared.frame.Frame.{Frame}
use Rattle.loads.specs.declared.train.RampTrain.{RampTrain}
use Rattle.loads.specs.FixedVecs.{items_of, items_few}
use Rattle.loads.specs.Params.{FrameParams, FrameRanges}
use Rattle.loads.specs.Making.{frame_params}
use Rattle.loads.specs.Train.{circle_from, frames_of}

all_append : {A : Type 0} (P : A → Type 0) (xs ys : List A) → All P xs → All P ys → All P (xs ++ ys)
all_append P [] ys a b = b
all_append P (x ∷ xs) ys a b = (a.0, all_append P xs ys a.1 b)

all_take : {A : Type 0} (P : A → Type 0) (k : ℕ) (xs : List A) → All P xs → All P (take k xs)
all_take P zero xs a = tt
all_take P (suc k) [] a = tt
all_take P (suc k) (x ∷ xs) a = (a.0, all_take P k xs a.1)

all_drop : {A : Type 0} (P : A → Type 0) (k : ℕ) (xs : List A) → All P xs → All P (drop k xs)
all_drop P zero xs a = a
all_drop P (suc k) [] a = tt
all_drop P (suc k) (x ∷ xs) a = all_drop P k xs a.1

-- the first frame goes to the end
pub all_turned : (P : FrameParams → Type 0) (f : FrameParams) (fs : List FrameParams) → All P (f ∷ fs) → All P (fs ++ (f ∷ []))
all_turned P f fs a = all_append P fs (f ∷ []) a.1 (a.0, tt)

pub all_from : {A : Type 0} (P : A → Type 0) (k : ℕ) (fs : List A) → All P fs → All P (circle_from k fs)
unfolding circle_from
all_from P k fs a = all_append P (drop k fs) (take k fs) (all_drop P k fs a) (all_take P k fs a)

-- A frame record keeps its ranges.
pub frame_ranged : (f : Frame) → FrameRanges (frame_params f)
frame_ranged f = record {
  cost_least = f.cost_range.0;
  cost_most = f.cost_range.1;
  deadline_least = f.deadline_range.0;
  deadline_most = f.deadline_range.1;
  gap_least = f.gap_range.0;
  gap_most = f.gap_range.1;
}

pub all_ranged : (fs : List Frame) → All FrameRanges (map frame_params fs)
all_ranged [] = tt
all_ranged (f ∷ fs) = (frame_ranged f, all_ranged fs)

-- So do the frames that a train holds.
pub frames_ranged : (r : RampTrain) → All FrameRanges (frames_of r)
frames_ranged r = all_ranged (items_of r.frames)

-- And they are at most sixteen.
pub frames_few : (r : RampTrain) → length (frames_of r) ≤ 16
frames_few r = rw length-map (items_few r.frames)
