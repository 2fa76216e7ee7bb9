-- The verdict of an image: what the program prints and what the host gets.
use Rattle.std.specs.Prelude.{◌≡◌, ℕ, ◌+◌, List, [], ◌∷◌, ◌++◌, Some, None, Ok, Err, codes, decimal, Option, Result}
use Rattle.theory.specs.declared.verdict.Unfit.{Unfit}
use Rattle.theory.specs.Meaning.{Meaning}
use Rattle.theory.specs.Verdict.{busy, walk}
use Rattle.theory.specs.Statements.{NeverLate}
use Rattle.loads.specs.declared.refusal.Refusal.{Refusal}
use Rattle.loads.specs.Refusals.{number, late_pair}
use Rattle.loads.specs.Channels.{Channels, blank}
use Rattle.loads.specs.Train.{train_meaning}
use Rattle.plan.specs.Ledger.{plan, refusal_of}
use Rattle.format.specs.declared.fault.RecordFault.{RecordFault}
use Rattle.format.specs.declared.fault.PlanFault.{PlanFault}
use Rattle.format.specs.declared.fault.PlanFault.TheVariants.{Record, Refused}
use Rattle.image.specs.declared.outcome.Outcome.{Outcome}
use Rattle.image.specs.declared.outcome.Outcome.TheVariants as outcome
use Rattle.format.specs.Faults.{plan_fault}
use Rattle.format.specs.Records.{Rec, task_rec, frame_rec}
use Rattle.format.specs.Decode.{decode, frames_in}
use Rattle.format.specs.Fills.{Filled, entered}

-- The offset of the first frame among records from `at` on, or of their end.
abbrev pub first_frame : ℕ → List Rec → ℕ
first_frame at [] = at
first_frame at (task_rec t ∷ rs) = first_frame (at + 37) rs
first_frame at (frame_rec f ∷ rs) = at

-- The busy period where it closes, and 0 where it does not. (For a yes it closes: see `YesMeans`.)
abbrev pub busy_or_zero : Option ℕ → ℕ
busy_or_zero (Some w) = w
busy_or_zero None = 0

-- The verdict on a plan filled over a guest that means `g`: the busy period of the plan as it finally stands.
abbrev pub over_plan : Meaning → Filled → Result ℕ PlanFault
over_plan g (Err e, l) = Err e
over_plan g (Ok u, l) = Ok (busy_or_zero (busy (plan g l).amounts))

-- The verdict on the records, by that on the train alone: its refusal stands at the first frame; else the tasks are
-- admitted in order over the train.
abbrev pub over_train : List Rec → Result ℕ Unfit → Result ℕ PlanFault
over_train rs (Err u) = Err (Refused (refusal_of u) (first_frame 0 rs))
over_train rs (Ok w) = over_plan (train_meaning (frames_in rs)) (entered (train_meaning (frames_in rs)) rs blank)

-- The verdict on what was read: the fault, or that on the records, of which the train is judged first.
abbrev pub over_records : Result (List Rec) RecordFault → Result ℕ PlanFault
over_records (Err e) = Err (Record e)
over_records (Ok rs) = over_train rs (walk (train_meaning (frames_in rs)).amounts)

-- The verdict of an image: the busy period, or the first fault.
unfoldable pub judged : List ℕ → Result ℕ PlanFault
judged xs = over_records (decode xs)

-- What yes with w says of an image: it was read, all its tasks were admitted and stand in `ledger`, the busy period of
-- that plan closes at w, and of the jobs that the plan permits none is ever late.
pub record YesMeans (xs : List ℕ) (w : ℕ) : Type 0 where
  pub records : List Rec
  pub read : decode xs ≡ Ok records
  pub ledger : Channels
  pub admitted_all : entered (train_meaning (frames_in records)) records blank ≡ (Ok tt, ledger)
  pub closes : busy (plan (train_meaning (frames_in records)) ledger).amounts ≡ Some w
  pub never_late : NeverLate (plan (train_meaning (frames_in records)) ledger)

-- The outcome of a refusal at an offset: late where there is a pair of mark and claim, else the refusal's number.
abbrev pub refused_at : Refusal → ℕ → Option (ℕ × ℕ) → Outcome
refused_at r at (Some late) = outcome.Late late at
refused_at r at None = outcome.Refused (number r) at

abbrev pub by_fault : Refusal × ℕ → Outcome
by_fault (r, at) = refused_at r at (late_pair r)

-- What is answered: yes with the busy period, late with mark and claim and the offset, or the refusal's number and
-- the offset.
abbrev pub told : Result ℕ PlanFault → Outcome
told (Ok w) = outcome.Yes w
told (Err e) = by_fault (plan_fault e)

-- The number that the host gets: 0 for yes, 11 for late, else the refusal's number.
abbrev pub code_of : Outcome → ℕ
code_of (outcome.Yes w) = 0
code_of (outcome.Late late at) = 11
code_of (outcome.Refused n at) = n

-- A field of the line after a space, and what comes after it.
abbrev pub spaced : ℕ → List ℕ → List ℕ
spaced n rest = codes " " ++ (decimal n ++ rest)

-- The line of an outcome, byte by byte.
abbrev pub line : Outcome → List ℕ
line (outcome.Yes w) = codes "yes" ++ spaced w (codes "\n")
line (outcome.Late late at) = codes "late" ++ spaced late.0 (spaced late.1 (spaced at (codes "\n")))
line (outcome.Refused n at) = codes "refused" ++ spaced n (spaced at (codes "\n"))
