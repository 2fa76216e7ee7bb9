-- What the reading calls answer, and what train and plan hold then.
use Rattle.std.specs.Prelude.{ℕ, zero, suc, ◌+◌, List, [], ◌∷◌, None, Ok, Err, Option, Result}
use Rattle.theory.specs.Meaning.{Meaning}
use Rattle.loads.specs.declared.refusal.Refusal.{Refusal}
use Rattle.loads.specs.Params.{FrameParams}
use Rattle.loads.specs.Channels.{Channels, blank}
use Rattle.plan.specs.declared.call.Call.{Call}
use Rattle.plan.specs.Ledger.{after, answers_to}
use Rattle.plan.specs.Promise.{Kept}
use Rattle.plan.specs.Admissions.{InTurn, in_turn}
use Rattle.format.specs.declared.fault.RecordFault.{RecordFault}
use Rattle.format.specs.declared.fault.PlanFault.{PlanFault}
use Rattle.format.specs.declared.fault.PlanFault.TheVariants.{Record, Refused}
use Rattle.format.specs.Records.{Rec, task_rec, frame_rec}
use Rattle.format.specs.Decode.{tasks_in, frames_in}

-- What taking frames answers, and the frames of the train then.
abbrev pub Taken : Type 0
Taken = Result (Unit {0}) RecordFault × List FrameParams

-- What filling a plan answers, and the ledger then.
abbrev pub Filled : Type 0
Filled = Result (Unit {0}) PlanFault × Channels

-- Taking the frames: the answer, and the frames of the train then, which are those of the image, or after a refusal
-- those that it held.
abbrev pub taken : Result (List Rec) RecordFault → List FrameParams → Taken
taken (Ok rs) held = (Ok tt, frames_in rs)
taken (Err e) held = (Err e, held)

-- The offset of the task at place n among these records, the first of which stands at `at`.
abbrev pub task_offset : ℕ → ℕ → List Rec → ℕ
task_offset at n [] = at
task_offset at n (frame_rec f ∷ rs) = task_offset (at + 14) n rs
task_offset at zero (task_rec t ∷ rs) = at
task_offset at (suc n) (task_rec t ∷ rs) = task_offset (at + 37) n rs

-- A refused task is told by the offset of its record.
abbrev pub at_offset : {X : Type 0} → List Rec → Result X (ℕ × Refusal) → Result X PlanFault
at_offset rs (Ok x) = Ok x
at_offset rs (Err p) = Err (Refused p.1 (task_offset 0 p.0 rs))

-- What admitting tasks of records answers, and the ledger then.
abbrev pub AdmittedTo : Type 0
AdmittedTo = Result (Option ℕ) PlanFault × Channels

abbrev pub told_at : List Rec → InTurn → AdmittedTo
told_at rs x = (at_offset rs x.0, x.1)

-- The tasks of the records are admitted one after another, up to the first that is refused: the busy period of the plan
-- with all of them (none where there are no tasks), or why and where one is refused; and the ledger then, which keeps the
-- tasks of earlier records.
abbrev pub admitted_to : Meaning → List Rec → Channels → AdmittedTo
admitted_to g rs l = told_at rs (in_turn g 0 None (tasks_in rs) l)

-- An answer without the value that it gives.
abbrev pub valueless : {X : Type 0} → Result X PlanFault → Result (Unit {0}) PlanFault
valueless (Ok x) = Ok tt
valueless (Err e) = Err e

abbrev pub filled_by : AdmittedTo → Filled
filled_by x = (valueless x.0, x.1)

-- The same, and of the answer only whether all were admitted.
abbrev pub entered : Meaning → List Rec → Channels → Filled
entered g rs l = filled_by (admitted_to g rs l)

-- The ledger `m` is what some more calls `ks` make after the calls `before`, and the plan's promise stands. The answers
-- here are the ledger's own: which calls they were and what was answered is said by `filled`.
abbrev pub KeptAgain : Meaning → List Call → Channels → Type 0
KeptAgain g before m = (ks : List Call) × Kept g before ks (answers_to g (after g blank before) ks) m

-- Filling a plan over a guest that means `g`: the answer, and the ledger then.
abbrev pub filled : Meaning → Result (List Rec) RecordFault → Channels → Filled
filled g (Err e) l = (Err (Record e), l)
filled g (Ok rs) l = entered g rs l
