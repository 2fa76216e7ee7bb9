-- Examples of images: some that are read, and some that are refused, with number and offset.
use Rattle.std.specs.Prelude.{◌≡◌, ℕ, List, [], ◌∷◌, take, replicate, Ok, Err, Result}
use Rattle.loads.specs.declared.refusal.Refusal.{Refusal}
use Rattle.loads.specs.Refusals.{number}
use Rattle.loads.specs.Params.{FrameParams, task, frame}
use Rattle.plan.specs.Admissions.{Placed}
use Rattle.format.specs.declared.fault.RecordFault.{RecordFault}
use Rattle.format.specs.Faults.{record_fault}
use Rattle.format.specs.Records.{Rec, task_rec, frame_rec}
use Rattle.format.specs.Decode.{decode}
use Rattle.format.specs.Encode.{image}

-- The number and the offset of a refusal.
abbrev pub numbered : Refusal × ℕ → ℕ × ℕ
numbered (r, at) = (number r, at)

-- Those of the first fault, and (0, 0) where there is none.
abbrev pub first_fault : Result (List Rec) RecordFault → ℕ × ℕ
first_fault (Ok rs) = (0, 0)
first_fault (Err e) = numbered (record_fault e)

-- The same of the image of these records, read.
abbrev pub reads : List Rec → ℕ × ℕ
reads rs = first_fault (decode (image rs))

-- A good label.
abbrev pub good : List ℕ
good = 0x21 ∷ 0x7E ∷ replicate 14 0

-- A task record with this label and channel.
abbrev pub sample : List ℕ → ℕ → Placed
sample l c = record { channel = c; content = record { label = l; params = task 4 10 7 1 2 } }

-- A frame in range.
abbrev pub good_frame : FrameParams
good_frame = frame 3 4 5

-- The examples.
pub record Examples : Type 0 where
  -- no bytes; an unknown mark; the end mark alone; a byte after it
  pub none : first_fault (decode []) ≡ (13, 0)
  pub unknown : first_fault (decode (0 ∷ 0 ∷ [])) ≡ (12, 0)
  pub empty : decode (0x45 ∷ 0x4E ∷ []) ≡ Ok []
  pub trailing : first_fault (decode (0x45 ∷ 0x4E ∷ 0 ∷ [])) ≡ (14, 2)
  -- cut inside the second record, and before the end mark
  pub cut : first_fault (decode (take 50 (image (task_rec (sample good 3) ∷ frame_rec good_frame ∷ [])))) ≡ (13, 37)
  pub unended : first_fault (decode (take 51 (image (task_rec (sample good 3) ∷ frame_rec good_frame ∷ [])))) ≡ (13, 51)
  -- sixteen zeros as a label, before a channel above 63; a channel above 63; a channel twice; a task after a frame
  pub label : reads (task_rec (sample (replicate 16 0) 64) ∷ []) ≡ (15, 0)
  pub channel : reads (task_rec (sample good 63) ∷ task_rec (sample good 64) ∷ []) ≡ (7, 37)
  pub twice : reads (task_rec (sample good 5) ∷ task_rec (sample good 5) ∷ []) ≡ (16, 37)
  pub after_frame : reads (frame_rec good_frame ∷ task_rec (sample good 5) ∷ []) ≡ (16, 14)
  -- sixteen frames, and a seventeenth
  pub sixteen : decode (image (replicate 16 (frame_rec good_frame))) ≡ Ok (replicate 16 (frame_rec good_frame))
  pub seventeen : reads (replicate 17 (frame_rec good_frame)) ≡ (6, 224)
  -- numbers out of range: the cost comes before all others, the gap before the deadline
  pub cost : reads (frame_rec (frame 0 0 0) ∷ []) ≡ (1, 0)
  pub gap : reads (frame_rec (frame 1 0 10000001) ∷ []) ≡ (2, 0)
  pub section : reads (task_rec (record { channel = 0; content = record { label = good; params = task 2 5 4 0 3 } }) ∷ []) ≡ (5, 0)
