-- What is proved of tasks, of a train, and of the channels of a table.
use Rattle.std.specs.Prelude.{◌≡◌, ℕ, ◌+◌, ◌-◌, ◌*◌, true, ◌↔◌, List, [], ◌∷◌, None, slice_set}
use Rattle.theory.specs.Jobs.{Job, All}
use Rattle.theory.specs.Meaning.{Meaning, Laws}
use Rattle.theory.specs.Beside.{beside, nothing}
use Rattle.theory.specs.Verdict.{Accepted}
use Rattle.loads.specs.Params.{TaskParams, FrameParams, TaskRanges, FrameRanges}
use Rattle.loads.specs.Tasks.{task_meaning, tasks_meaning, task_mark}
use Rattle.loads.specs.Channels.{Channels, filled, table}
use Rattle.loads.specs.Train.{train_meaning}

-- Two loads mean the same.
pub record Same (m n : Meaning) : Type 0 where
  pub due : (t : ℕ) → m.amounts.due t ≡ n.amounts.due t
  pub held : (t : ℕ) → m.amounts.held t ≡ n.amounts.held t
  pub ready : (s : ℕ) → m.amounts.ready s ≡ n.amounts.ready s
  pub mark : (t : ℕ) → m.amounts.mark t ≡ n.amounts.mark t
  pub Permits : (js : List Job) → m.Permits js ↔ n.Permits js

-- Tasks keep the laws of a load.
abbrev pub TasksLawful : Type 0
TasksLawful = (xs : List TaskParams) → All TaskRanges xs → Laws (tasks_meaning xs)

-- Tasks stand side by side: none are no work, and one more is that one beside the others.
abbrev pub NoTasks : Type 0
NoTasks = Same (tasks_meaning []) nothing

abbrev pub TasksBeside : Type 0
TasksBeside = (x : TaskParams) (xs : List TaskParams) → Same (tasks_meaning (x ∷ xs)) (beside (task_meaning x) (tasks_meaning xs))

-- The marks of a task are kT + D − J, k from 0.
abbrev pub MarksAre : Type 0
MarksAre = (x : TaskParams) → TaskRanges x → (t : ℕ) → (task_mark x t ≡ true) ↔ ((k : ℕ) × (t ≡ k * x.period + (x.deadline - x.jitter)))

-- A train keeps the laws of a load.
abbrev pub TrainLawful : Type 0
TrainLawful = (fs : List FrameParams) → All FrameRanges fs → Laws (train_meaning fs)

-- A table that is accepted beside a guest stays so when one of its channels is emptied.
abbrev pub EmptiedKeeps : Meaning → Type 0
EmptiedKeeps guest = (l : Channels) → All TaskRanges (filled l) → (c : ℕ)
    → Accepted (beside (table l) guest).amounts → Accepted (beside (table (slice_set l c None)) guest).amounts
