-- The records of an image: their numbers, their bytes, and what is checked of them.
use Rattle.std.specs.Prelude.{ℕ, suc, cond, ◌&&◌, List, ◌∷◌, ◌++◌, map, take, drop, Some, None, Option, ◌==◌, nat_le, nat_lt}
use Rattle.loads.specs.declared.refusal.Refusal.{Refusal}
use Rattle.loads.specs.declared.refusal.Refusal.TheVariants.{TrainFull, NoChannel, BadLabel, OutOfOrder}
use Rattle.loads.specs.Params.{TaskParams, FrameParams}
use Rattle.loads.specs.Making.{task_refusal, frame_refusal}
use Rattle.plan.specs.Labels.{good_label}
use Rattle.plan.specs.Admissions.{Placed}
use Rattle.format.specs.declared.fault.RecordFault.{RecordFault}
use Rattle.format.specs.declared.fault.RecordFault.TheVariants.{Refused}
use Rattle.format.specs.declared.before.Before.{Before}
use Rattle.format.specs.Bytes.{bytes, value}

-- A record of an image: that of a task, or that of a frame.
pub data Rec : Type 0 where
  task_rec : Placed → Rec
  frame_rec : FrameParams → Rec

-- The bytes of a task's record, its mark with them: 37.
abbrev pub task_bytes : Placed → List ℕ
task_bytes t =
    0x54 ∷ 0x4B ∷ t.content.label ++ (bytes 1 t.channel
    ++ (bytes 4 t.content.params.cost ++ (bytes 4 t.content.params.period ++ (bytes 4 t.content.params.deadline
    ++ (bytes 4 t.content.params.jitter ++ bytes 2 t.content.params.section)))))

-- The bytes of a frame's record, its mark with them: 14.
abbrev pub frame_bytes : FrameParams → List ℕ
frame_bytes f = 0x52 ∷ 0x46 ∷ bytes 4 f.cost ++ (bytes 4 f.deadline ++ bytes 4 f.gap)

-- The bytes of a record.
abbrev pub rec_bytes : Rec → List ℕ
rec_bytes (task_rec t) = task_bytes t
rec_bytes (frame_rec f) = frame_bytes f

-- The records of an image in their order: tasks, then frames.
abbrev pub in_order : List Placed → List FrameParams → List Rec
in_order ts fs = map task_rec ts ++ map frame_rec fs

-- How many bytes a record takes.
abbrev pub size : Rec → ℕ
size (task_rec t) = 37
size (frame_rec f) = 14

-- The number in the `w` bytes from place `i` on.
abbrev pub field : ℕ → ℕ → List ℕ → ℕ
field i w xs = value (take w (drop i xs))

-- The parameters that the bytes of a task's record hold. The bytes begin with the mark, here and below.
abbrev pub params_in : List ℕ → TaskParams
params_in xs = record { cost = field 19 4 xs; period = field 23 4 xs; deadline = field 27 4 xs; jitter = field 31 4 xs; section = field 35 2 xs }

-- The record of a task that bytes hold.
abbrev pub task_in : List ℕ → Placed
task_in xs = record { channel = field 18 1 xs; content = record { label = take 16 (drop 2 xs); params = params_in xs } }

-- The frame that bytes hold.
abbrev pub frame_in : List ℕ → FrameParams
frame_in xs = record { cost = field 2 4 xs; deadline = field 6 4 xs; gap = field 10 4 xs }

-- Before the first record, any channel may come and no frame has come.
abbrev pub start : Before
start = record { least = 0; frames = 0 }

-- What has come before the next record.
abbrev pub after : Before → Rec → Before
after b (task_rec t) = record { least = suc t.channel; frames = b.frames }
after b (frame_rec f) = record { least = b.least; frames = suc b.frames }

-- A check on the numbers of the record at `at`, as a fault of that record.
abbrev pub out_of_range : ℕ → Option Refusal → Option RecordFault
out_of_range at None = None
out_of_range at (Some e) = Some (Refused e at)

-- The first check that the record at `at` fails: for a task 15, 7, 16, then 1 to 5; for a frame 6, then 1 to 3.
abbrev pub fault : Before → ℕ → Rec → Option RecordFault
fault b at (task_rec t) =
    cond (good_label t.content.label)
    (cond (nat_le t.channel 63)
    (cond (nat_le b.least t.channel && b.frames == 0)
    (out_of_range at (task_refusal t.content.params))
    (Some (Refused OutOfOrder at))) (Some (Refused NoChannel at))) (Some (Refused BadLabel at))
fault b at (frame_rec f) =
    cond (nat_lt b.frames 16)
    (out_of_range at (frame_refusal f))
    (Some (Refused TrainFull at))
