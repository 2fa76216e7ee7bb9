-- The image, read: the parts that stand one after another, and the records or the first fault.
use Rattle.std.specs.Prelude.{ℕ, zero, suc, ◌+◌, Bool, cond, ◌&&◌, List, [], ◌∷◌, length, take, drop, Some, None, Ok, Err, Option, Result, ◌==◌, nat_le, slice_index}
use Rattle.loads.specs.Params.{FrameParams}
use Rattle.plan.specs.Admissions.{Placed}
use Rattle.format.specs.declared.fault.ImageFault.{ImageFault}
use Rattle.format.specs.declared.fault.ImageFault.TheVariants.{UnknownMark, Cut, Trailing}
use Rattle.format.specs.declared.fault.RecordFault.{RecordFault}
use Rattle.format.specs.declared.fault.RecordFault.TheVariants.{Image}
use Rattle.format.specs.declared.before.Before.{Before}
use Rattle.format.specs.Records.{Rec, task_rec, frame_rec, size, task_in, frame_in, start, after, fault}

-- The bytes `xs` begin with the mark of the two bytes `a` and `b`.
abbrev pub marked : ℕ → ℕ → List ℕ → Bool
marked a b xs = slice_index xs 0 == a && slice_index xs 1 == b

-- A part of the image: the bytes of a record, its mark with them, and their offset. (It is no piece of a job.)
pub data Piece : Type 0 where
  task_piece : List ℕ → ℕ → Piece
  frame_piece : List ℕ → ℕ → Piece

-- The part `p` at `at`, if the `n` bytes that it takes are all there; else 13.
abbrev pub whole : ℕ → List ℕ → ℕ → Piece → Result (Option Piece) ImageFault
whole at xs n p = cond (nat_le n (length xs)) (Ok (Some p)) (Err (Cut at))

-- The part at the front of the bytes `xs` that are left from `at` on, or nothing at the end mark; 12 where no mark
-- stands there, and 13 where too few bytes are left.
unfoldable pub part : ℕ → List ℕ → Result (Option Piece) ImageFault
part at xs =
    cond (nat_le 2 (length xs))
    (cond (marked 0x54 0x4B xs) (whole at xs 37 (task_piece (take 37 xs) at))
    (cond (marked 0x52 0x46 xs) (whole at xs 14 (frame_piece (take 14 xs) at))
    (cond (marked 0x45 0x4E xs) (Ok None)
    (Err (UnknownMark at)))))
    (Err (Cut at))

-- The record in a part.
abbrev pub rec_in : Piece → Rec
rec_in (task_piece xs at) = task_rec (task_in xs)
rec_in (frame_piece xs at) = frame_rec (frame_in xs)

-- After the end mark no records follow; 14 where a byte does.
abbrev pub ended : ℕ → List ℕ → Result (List Rec) RecordFault
ended at [] = Ok []
ended at (x ∷ xs) = Err (Image (Trailing at))

-- A record before those that follow it, unless one of those is refused.
abbrev pub with_rest : Rec → Result (List Rec) RecordFault → Result (List Rec) RecordFault
with_rest r (Ok rs) = Ok (r ∷ rs)
with_rest r (Err e) = Err e

-- What has come before the next record, if this one passes its checks; else its first fault.
abbrev pub passed : Before → ℕ → Rec → Result Before RecordFault
passed b at r = elim (fault b at r) [ Some e ↦ Err e | None ↦ Ok (after b r) ]

-- The records from `at` on, one at each turn; the first number counts the turns. A record takes at least 2 bytes, so as
-- many turns as bytes are enough.
unfoldable pub records : ℕ → Before → ℕ → List ℕ → Result (List Rec) RecordFault
records zero b at xs = Err (Image (Cut at))
records (suc n) b at xs = elim (part at xs) [
  | Err e ↦ Err (Image e)
  | Ok o ↦ elim o [
    | None ↦ ended (at + 2) (drop 2 xs)
    | Some p ↦ elim (passed b at (rec_in p)) [
      | Err e ↦ Err e
      | Ok c ↦ with_rest (rec_in p) (records n c (at + size (rec_in p)) (drop (size (rec_in p)) xs))
    ]
  ]
]

-- The records of an image, or the first fault.
unfoldable pub decode : List ℕ → Result (List Rec) RecordFault
decode xs = records (length xs) start 0 xs

-- The tasks among the records of an image.
abbrev pub tasks_in : List Rec → List Placed
tasks_in [] = []
tasks_in (task_rec t ∷ rs) = t ∷ tasks_in rs
tasks_in (frame_rec f ∷ rs) = tasks_in rs

-- The frames among them.
abbrev pub frames_in : List Rec → List FrameParams
frames_in [] = []
frames_in (task_rec t ∷ rs) = frames_in rs
frames_in (frame_rec f ∷ rs) = f ∷ frames_in rs
