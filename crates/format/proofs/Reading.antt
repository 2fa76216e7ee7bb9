-- One pass over the parts of an image checks its records and collects its tasks and its frames.
use Rattle.std.proofs.Common.{◌≡◌, ℕ, suc, List, [], ◌∷◌, ◌++◌, length, Some, Ok, Err, Result, sym, refl, ap, ◌∙◌, append_assoc, arith, length-append, ◌<◌, zero, ◌+◌, ◌*◌}
use Rattle.std.proofs.lemmas.List.{append-nil}
use Rattle.loads.specs.Params.{FrameParams}
use Rattle.plan.specs.Admissions.{Placed, InTurn}
use Rattle.format.specs.declared.before.Before.{Before}
use Rattle.format.specs.declared.fault.RecordFault.{RecordFault}
use Rattle.format.specs.Records.{Rec, task_rec, frame_rec, in_order, start, after, task_in, frame_in}
use Rattle.format.specs.Decode.{decode, passed, Piece, task_piece, frame_piece, rec_in, with_rest, tasks_in, frames_in}
use Rattle.format.specs.Parts.{offset, pieces_from}
use Rattle.format.specs.Fills.{Taken, Filled, taken, task_offset, told_at, filled_by}
use Rattle.format.proofs.Front.{AllRead}
use Rattle.format.proofs.Items.{Item, by_check, checks, decode_checks}
use Rattle.format.proofs.Passing.{passed_is, Passes, task_passes}

-- Records that were read, before what the reading of the others answers.
abbrev pub joined : List Rec → AllRead → AllRead
joined rs (Ok qs) = Ok (rs ++ qs)
joined rs (Err e) = Err e

joined_none : (x : AllRead) → joined [] x ≡ x
joined_none (Ok qs) = refl
joined_none (Err e) = refl

joined_more : (rs : List Rec) (r : Rec) (x : AllRead) → joined rs (with_rest r x) ≡ joined (rs ++ (r ∷ [])) x
joined_more rs r (Ok qs) = ap (λ (ss : List Rec). let x : AllRead = Ok ss in x) (sym (append_assoc rs (r ∷ []) qs))
joined_more rs r (Err e) = refl

-- One record more, of a task before any frame or of a frame.
task_last : (ts : List Placed) (fs : List FrameParams) (t : Placed) → length fs ≡ 0 → in_order ts fs ++ (task_rec t ∷ []) ≡ in_order (ts ++ (t ∷ [])) fs
task_last [] [] t n = refl
task_last (u ∷ ts) [] t n = ap (λ (rs : List Rec). task_rec u ∷ rs) (task_last ts [] t n)
task_last ts (f ∷ fs) t n = absurd (omega arith)

frame_last : (ts : List Placed) (fs : List FrameParams) (f : FrameParams) → in_order ts fs ++ (frame_rec f ∷ []) ≡ in_order ts (fs ++ (f ∷ []))
frame_last [] [] f = refl
frame_last [] (g ∷ fs) f = ap (λ (rs : List Rec). frame_rec g ∷ rs) (frame_last [] fs f)
frame_last (t ∷ ts) fs f = ap (λ (rs : List Rec). task_rec t ∷ rs) (frame_last ts fs f)

-- The tasks `ts` and the frames `fs` were read, `b` is what has come before the next record, and `is` are the items that
-- are left.
pub record Reading (xs : List ℕ) (b : Before) (ts : List Placed) (fs : List FrameParams) (is : List Item) : Type 0 where
  pub frames : b.frames ≡ length fs
  pub rest : decode xs ≡ joined (in_order ts fs) (checks b is)

pub reading_start : (xs : List ℕ) → Reading xs start [] [] (pieces_from xs (Some 0))
reading_start xs = record {
  frames = refl;
  rest = decode_checks xs ∙ sym (joined_none (checks start (pieces_from xs (Some 0))));
}

module _ {xs : List ℕ} {b : Before} {ts : List Placed} {fs : List FrameParams} where
  -- What is left after a record that passes its checks, or its fault.
  onward : (p : Piece) (is : List Item) (x : Result Before RecordFault) → Reading xs b ts fs (Ok p ∷ is) → x ≡ passed b (offset p) (rec_in p)
      → decode xs ≡ joined (in_order ts fs) (by_check (rec_in p) (λ c. checks c is) x)
  onward p is x k e = k.rest ∙ ap (λ (y : Result Before RecordFault). joined (in_order ts fs) (by_check (rec_in p) (λ c. checks c is) y)) (sym e)

  -- A task that passes its checks is read.
  module _ (bytes : List ℕ) (at : ℕ) (is : List Item) (c : Before) (k : Reading xs b ts fs (Ok (task_piece bytes at) ∷ is)) (e : Ok c ≡ passed b at (task_rec (task_in bytes))) where
    good_task : Passes b (task_in bytes)
    good_task = task_passes b at (task_in bytes) (passed_is b c at (task_rec (task_in bytes)) e).0

    pub task_read : Reading xs c (ts ++ (task_in bytes ∷ [])) fs is
    task_read =
        let w = good_task in
        let d : c ≡ after b (task_rec (task_in bytes)) = (passed_is b c at (task_rec (task_in bytes)) e).1 in
        record {
          frames = ap (λ (x : Before). x.frames) d ∙ k.frames;
          rest = onward (task_piece bytes at) is (Ok c) k e
              ∙ joined_more (in_order ts fs) (task_rec (task_in bytes)) (checks c is)
              ∙ ap (λ (rs : List Rec). joined rs (checks c is)) (task_last ts fs (task_in bytes) (sym k.frames ∙ w.first));
        }

  -- So does a frame.
  module _ (bytes : List ℕ) (at : ℕ) (is : List Item) (c : Before) (k : Reading xs b ts fs (Ok (frame_piece bytes at) ∷ is)) (e : Ok c ≡ passed b at (frame_rec (frame_in bytes))) where
    pub frame_read : Reading xs c ts (fs ++ (frame_in bytes ∷ [])) is
    frame_read =
        let d : c ≡ after b (frame_rec (frame_in bytes)) = (passed_is b c at (frame_rec (frame_in bytes)) e).1 in
        let m : c.frames ≡ suc b.frames = ap (λ (x : Before). x.frames) d in
        record {
          frames = omega (arith, m, k.frames, length-append fs (frame_in bytes ∷ []));
          rest = onward (frame_piece bytes at) is (Ok c) k e
              ∙ joined_more (in_order ts fs) (frame_rec (frame_in bytes)) (checks c is)
              ∙ ap (λ (rs : List Rec). joined rs (checks c is)) (frame_last ts fs (frame_in bytes));
        }

  -- At the end all records were read.
  pub all_read : Reading xs b ts fs [] → decode xs ≡ Ok (in_order ts fs)
  all_read k = k.rest ∙ ap (λ (rs : List Rec). let x : AllRead = Ok rs in x) (append-nil (in_order ts fs))

-- The tasks and the frames among records in their order.
pub tasks_in_order : (ts : List Placed) (fs : List FrameParams) → tasks_in (in_order ts fs) ≡ ts
tasks_in_order [] [] = refl
tasks_in_order [] (f ∷ fs) = tasks_in_order [] fs
tasks_in_order (t ∷ ts) fs = ap (λ (us : List Placed). t ∷ us) (tasks_in_order ts fs)

pub frames_in_order : (ts : List Placed) (fs : List FrameParams) → frames_in (in_order ts fs) ≡ fs
frames_in_order [] [] = refl
frames_in_order [] (f ∷ fs) = ap (λ (gs : List FrameParams). f ∷ gs) (frames_in_order [] fs)
frames_in_order (t ∷ ts) fs = frames_in_order ts fs

-- What filling answers, by what admitting the tasks of the records answers.
abbrev pub entering : List Rec → InTurn → Filled
entering rs x = filled_by (told_at rs x)

-- The offset of a task that was read: tasks come first, 37 bytes each.
offset_from : (at n : ℕ) (ts : List Placed) (fs : List FrameParams) → n < length ts → task_offset at n (in_order ts fs) ≡ at + 37 * n
offset_from at n [] fs h = absurd (omega arith)
offset_from at zero (t ∷ ts) fs h = omega arith
offset_from at (suc n) (t ∷ ts) fs h = offset_from (at + 37) n ts fs (omega arith) ∙ omega arith

pub offset_is : (n : ℕ) (ts : List Placed) (fs : List FrameParams) → n < length ts → task_offset 0 n (in_order ts fs) ≡ 37 * n
offset_is n ts fs h = offset_from 0 n ts fs h ∙ omega arith

-- So the train gets what was collected.
pub taken_is : (xs : List ℕ) (ts : List Placed) (fs : List FrameParams) → decode xs ≡ Ok (in_order ts fs) → (held : List FrameParams) → taken (decode xs) held ≡ (Ok tt, fs)
taken_is xs ts fs d held = ap (λ (x : AllRead). taken x held) d ∙ ap (λ (gs : List FrameParams). let x : Taken = (Ok tt, gs) in x) (frames_in_order ts fs)
