-- The records of an image that was read stand in their order: tasks first, 37 bytes each, and then frames.
use Rattle.std.proofs.Common.{◌≡◌, ℕ, ◌+◌, ◌*◌, ◌<◌, List, [], ◌∷◌, length, Ok, sym, ap, ◌∙◌, arith}
use Rattle.loads.specs.Params.{FrameParams}
use Rattle.plan.specs.Admissions.{Placed}
use Rattle.format.specs.Records.{Rec, in_order, start}
use Rattle.format.specs.Decode.{decode, tasks_in, frames_in}
use Rattle.format.specs.Fills.{task_offset}
use Rattle.format.proofs.Front.{AllRead}
use Rattle.format.proofs.Reading.{offset_is}
use Rattle.format.proofs.Rising.{decoded_lawful}
use Rattle.format.proofs.WritesAgain.{sorted}
use Rattle.image.specs.Verdict.{first_frame}

module _ (xs : List ℕ) (rs : List Rec) (d : decode xs ≡ Ok rs) where
  same : in_order (tasks_in rs) (frames_in rs) ≡ rs
  same = sorted start rs (decoded_lawful xs rs d)

  pub ordered : decode xs ≡ Ok (in_order (tasks_in rs) (frames_in rs))
  ordered = d ∙ ap (λ (qs : List Rec). let x : AllRead = Ok qs in x) (sym same)

  behind_tasks : (at : ℕ) (ts : List Placed) (fs : List FrameParams) → first_frame at (in_order ts fs) ≡ at + 37 * length ts
  behind_tasks at [] [] = omega arith
  behind_tasks at [] (f ∷ fs) = omega arith
  behind_tasks at (t ∷ ts) fs = behind_tasks (at + 37) ts fs ∙ omega arith

  pub first_frame_is : first_frame 0 rs ≡ 37 * length (tasks_in rs)
  first_frame_is = ap (first_frame 0) (sym same) ∙ behind_tasks 0 (tasks_in rs) (frames_in rs) ∙ omega arith

  pub task_offset_is : (n : ℕ) → n < length (tasks_in rs) → task_offset 0 n rs ≡ 37 * n
  task_offset_is n h = ap (task_offset 0 n) (sym same) ∙ offset_is n (tasks_in rs) (frames_in rs) h
