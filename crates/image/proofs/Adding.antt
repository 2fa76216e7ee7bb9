-- A record that is added to those read so far is read.
use Rattle.std.proofs.Common.{◌≡◌, ℕ, List, [], ◌∷◌, ◌++◌, length, Ok, Result, sym, ap, ◌∙◌, subst, arith, length-append}
use Rattle.loads.specs.Params.{FrameParams}
use Rattle.loads.specs.Train.{frames_of}
use Rattle.plan.specs.Admissions.{Placed}
use Rattle.format.specs.declared.before.Before.{Before}
use Rattle.format.specs.declared.fault.RecordFault.{RecordFault}
use Rattle.format.specs.Records.{Rec, task_in, in_order}
use Rattle.format.specs.Decode.{decode, Piece, task_piece, frame_piece, tasks_in, frames_in}
use Rattle.format.proofs.Items.{Item}
use Rattle.format.proofs.Reading.{Reading, task_read, frame_read, all_read, tasks_in_order, frames_in_order}
use Rattle.image.specs.declared.records.Records.{Records}
use Rattle.image.specs.Checked.{read_or_none, records_in}
use Rattle.image.specs.Added.{Added}

-- What was read so far: some tasks, as many as are counted, and the frames.
pub record SoFar (xs : List ℕ) (b : Before) (n : ℕ) (fs : List FrameParams) (is : List Item) : Type 0 where
  pub tasks : List Placed
  pub count : n ≡ length tasks
  pub reading : Reading xs b tasks fs is

pub record_read : (xs : List ℕ) (a b : Records) (p : Piece) (is : List Item) → SoFar xs a.before a.tasks (frames_of a.train) (Ok p ∷ is) → Added a p (Ok tt) b → SoFar xs b.before b.tasks (frames_of b.train) is
record_read xs a b (task_piece bytes at) is k d = record {
  tasks = k.tasks ++ (task_in bytes ∷ []);
  count = omega (arith, d.1.0, k.count, length-append k.tasks (task_in bytes ∷ []));
  reading = subst (λ (fs : List FrameParams). Reading xs b.before (k.tasks ++ (task_in bytes ∷ [])) fs is) (sym d.1.1) (task_read bytes at is b.before k.reading d.0);
}
record_read xs a b (frame_piece bytes at) is k d = record {
  tasks = k.tasks;
  count = d.1.0 ∙ k.count;
  reading = subst (λ (fs : List FrameParams). Reading xs b.before k.tasks fs is) (sym d.1.1) (frame_read bytes at is b.before k.reading d.0);
}

-- At the end, what was read is what the image holds.
pub record AllRead (xs : List ℕ) (n : ℕ) (fs : List FrameParams) : Type 0 where
  pub read : decode xs ≡ Ok (records_in xs)
  pub count : n ≡ length (tasks_in (records_in xs))
  pub frames : fs ≡ frames_in (records_in xs)

pub whole : (xs : List ℕ) (b : Before) (n : ℕ) (fs : List FrameParams) → SoFar xs b n fs [] → AllRead xs n fs
whole xs b n fs k =
    let d = all_read k.reading in
    let e : in_order k.tasks fs ≡ records_in xs = sym (ap read_or_none d) in
    record {
      read = d ∙ ap (λ (rs : List Rec). let x : Result (List Rec) RecordFault = Ok rs in x) e;
      count = k.count ∙ ap length (sym (tasks_in_order k.tasks fs) ∙ ap tasks_in e);
      frames = sym (frames_in_order k.tasks fs) ∙ ap frames_in e;
    }
