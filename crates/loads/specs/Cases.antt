-- Worked cases: the busy period and both verdicts of small loads, by the definitions.
use Rattle.std.specs.Prelude.{◌≡◌, ℕ, ◌≤◌, List, [], ◌∷◌, Some, None, Ok, Err, Option, Result}
use Rattle.theory.specs.declared.verdict.Unfit.{Unfit}
use Rattle.theory.specs.declared.verdict.Unfit.TheVariants.{NotClosed, Late}
use Rattle.theory.specs.Meaning.{Amounts, claim, last_mark}
use Rattle.theory.specs.Beside.{beside}
use Rattle.theory.specs.Verdict.{busy, walk, look, walk_ticks}
use Rattle.loads.specs.Params.{FrameParams, task, frame}
use Rattle.loads.specs.Tasks.{tasks_amounts, tasks_meaning}
use Rattle.loads.specs.Train.{train_meaning}

-- The busy period, if it closes; and one verdict, the judge's and the audit's.
abbrev pub ComesTo : Amounts → Option ℕ → Result ℕ Unfit → Type 0
ComesTo m period verdict = (busy m ≡ period) × (walk m ≡ verdict) × (look m ≡ verdict)

-- The judge, over a busy period of w, stands at these ticks.
abbrev pub Visits : Amounts → ℕ → List ℕ → Type 0
Visits m w ticks = walk_ticks m w (last_mark m.mark w) ≡ ticks

-- A task of cost 2, period 5, deadline 4, and one of cost 4, period 10, deadline 7, jitter 1 with that section.
abbrev pub two_tasks : ℕ → Amounts
two_tasks section = tasks_amounts (task 2 5 4 0 0 ∷ task 4 10 7 1 section ∷ [])

-- A task of cost 10 and period 10, with that deadline.
abbrev pub whole_period : ℕ → Amounts
whole_period deadline = tasks_amounts (task 10 10 deadline 0 0 ∷ [])

-- The same task with deadline 25 and jitter 5.
abbrev pub with_jitter : Amounts
with_jitter = tasks_amounts (task 10 10 25 5 0 ∷ [])

-- Six tasks with jitter and sections, which use 74 per cent of the processor.
abbrev pub six_tasks : Amounts
six_tasks = tasks_amounts (task 7 60 37 6 2 ∷ task 19 160 70 18 9 ∷ task 60 380 280 30 18 ∷ task 47 460 590 40 14 ∷ task 53 510 320 37 16 ∷ task 70 490 360 46 13 ∷ [])

-- Two frames: cost 3, deadline 4, and cost 1, deadline 2, each with a gap of 5.
abbrev pub two_frames : List FrameParams
two_frames = frame 3 4 5 ∷ frame 1 2 5 ∷ []

-- A task of cost 3 and period 10, with that deadline, beside a train of these two frames.
abbrev pub beside_train : ℕ → Amounts
beside_train deadline = (beside (tasks_meaning (task 3 10 deadline 0 0 ∷ [])) (train_meaning two_frames)).amounts

pub record Cases : Type 0 where
  -- No task: nothing is ready.
  pub no_task : ComesTo (tasks_amounts []) (Some 0) (Ok 0)
  -- One task, whose first mark lies past the busy period.
  pub one_task : ComesTo (tasks_amounts (task 2 5 4 0 0 ∷ [])) (Some 2) (Ok 2)
  -- Two tasks with a section that just fits: at both ticks that the judge visits, the claim is the tick.
  pub section_fits : ComesTo (two_tasks 2) (Some 8) (Ok 8)
  pub section_fits_visits : Visits (two_tasks 2) 8 (6 ∷ 4 ∷ [])
  pub section_fits_claims : (claim (two_tasks 2) 6 ≡ 6) × (claim (two_tasks 2) 4 ≡ 4)
  -- The same with a section longer by 1: late at mark 4 by claim 5.
  pub section_late : ComesTo (two_tasks 3) (Some 8) (Err (Late (4, 5)))
  -- A task that takes its whole period, due at the end of it.
  pub whole_fits : ComesTo (whole_period 10) (Some 10) (Ok 10)
  -- The same due one tick earlier: late at mark 9 by claim 10.
  pub whole_late : ComesTo (whole_period 9) (Some 10) (Err (Late (9, 10)))
  -- A busy period that never closes, though no claim exceeds its tick.
  pub unclosed : ComesTo with_jitter None (Err NotClosed)
  pub unclosed_claims : (t : ℕ) → claim with_jitter t ≤ t
  -- Six tasks.
  pub six_fit : ComesTo six_tasks (Some 329) (Ok 329)
  pub six_fit_visits : Visits six_tasks 329 (314 ∷ 270 ∷ 142 ∷ 51 ∷ 25 ∷ 0 ∷ [])
  -- A train of two frames.
  pub train_fits : ComesTo (train_meaning two_frames).amounts (Some 3) (Ok 3)
  -- A task beside that train: late at mark 5 by claim 6.
  pub beside_late : ComesTo (beside_train 5) (Some 7) (Err (Late (5, 6)))
  -- The same with a deadline later by 1.
  pub beside_fits : ComesTo (beside_train 6) (Some 7) (Ok 7)
