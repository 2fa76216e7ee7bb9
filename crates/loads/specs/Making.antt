-- What making a task or a frame from numbers gives.
use Rattle.std.specs.Prelude.{ℕ, Bool, cond, ◌&&◌, Some, None, Ok, Err, Option, Result, nat_le, nat_lt}
use Rattle.loads.specs.declared.refusal.Refusal.{Refusal}
use Rattle.loads.specs.declared.refusal.Refusal.TheVariants.{Cost, Period, Deadline, Jitter, Section}
use Rattle.loads.specs.declared.task.Task.{Task}
use Rattle.loads.specs.declared.frame.Frame.{Frame}
use Rattle.loads.specs.Params.{TaskParams, FrameParams, task, frame}

-- `n` lies from `a` to `b`.
abbrev pub within : ℕ → ℕ → ℕ → Bool
within a b n = nat_le a n && nat_le n b

-- The first of the checks on a task's parameters that fails: cost, period, deadline, jitter, section.
abbrev pub task_refusal : TaskParams → Option Refusal
task_refusal p =
    cond (within 1 10000000 p.cost)
    (cond (within 1 10000000 p.period)
    (cond (within 1 100000000 p.deadline)
    (cond (nat_lt p.jitter p.period && nat_lt p.jitter p.deadline)
    (cond (nat_le p.section p.cost && nat_le p.section 65535)
    None
    (Some Section)) (Some Jitter)) (Some Deadline)) (Some Period)) (Some Cost)

-- The first of the checks on a frame's parameters that fails: cost, gap, deadline. A gap is refused as a period.
abbrev pub frame_refusal : FrameParams → Option Refusal
frame_refusal p =
    cond (within 1 10000000 p.cost)
    (cond (within 1 10000000 p.gap)
    (cond (within 1 100000000 p.deadline)
    None
    (Some Deadline)) (Some Period)) (Some Cost)

-- What is made, unless it is refused.
abbrev pub unless : {A : Type 0} → Option Refusal → A → Result A Refusal
unless None x = Ok x
unless (Some e) x = Err e

-- What making gives: the parameters, or the first check that they fail.
abbrev pub made_task : TaskParams → Result TaskParams Refusal
made_task p = unless (task_refusal p) p

abbrev pub made_frame : FrameParams → Result FrameParams Refusal
made_frame p = unless (frame_refusal p) p

-- The parameters of a task record and of a frame record.
abbrev pub task_params : Task → TaskParams
task_params x = task x.cost x.period x.deadline x.jitter x.section

abbrev pub frame_params : Frame → FrameParams
frame_params f = frame f.cost f.deadline f.gap

-- The same where making may have refused.
abbrev pub task_made : Result Task Refusal → Result TaskParams Refusal
task_made (Ok x) = Ok (task_params x)
task_made (Err e) = Err e

abbrev pub frame_made : Result Frame Refusal → Result FrameParams Refusal
frame_made (Ok f) = Ok (frame_params f)
frame_made (Err e) = Err e
