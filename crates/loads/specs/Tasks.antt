-- What one task means, and what tasks side by side mean, by their parameters C, T, D, J, S.
use Rattle.std.specs.Prelude.{◌≡◌, ℕ, ◌+◌, ◌-◌, ◌*◌, ◌/◌, ◌%◌, ◌≤◌, max, Bool, false, cond, ◌&&◌, ◌||◌, List, [], ◌∷◌, ℤ, pos, ◌+ℤ◌, ◌≤ℤ◌, ◌==◌, nat_le, nat_lt}
use Rattle.theory.specs.Jobs.{Job, All, work}
use Rattle.theory.specs.Meaning.{Amounts, Meaning}
use Rattle.theory.specs.Beside.{Deals}
use Rattle.loads.specs.Params.{TaskParams}

-- a / b, rounded up.
abbrev pub ceil : ℕ → ℕ → ℕ
ceil a b = (a + (b - 1)) / b

-- C × (1 + floor((t + J − D)/T)) where D − J is at most t, else 0.
abbrev pub task_due : TaskParams → ℕ → ℕ
task_due x t = cond (nat_le (x.deadline - x.jitter) t) (x.cost * (1 + (t + x.jitter - x.deadline) / x.period)) 0

-- S where D − J is above t, else 0.
abbrev pub task_held : TaskParams → ℕ → ℕ
task_held x t = cond (nat_lt t (x.deadline - x.jitter)) x.section 0

-- C × ceil((s + J)/T) for s of 1 or more, and 0 for 0.
abbrev pub task_ready : TaskParams → ℕ → ℕ
task_ready x s = cond (s == 0) 0 (x.cost * ceil (s + x.jitter) x.period)

-- t is kT + D − J for some k from 0 on.
abbrev pub task_mark : TaskParams → ℕ → Bool
task_mark x t = nat_le (x.deadline - x.jitter) t && (t + x.jitter - x.deadline) % x.period == 0

-- A job that the task permits by itself: released from its arrival to its arrival + J, due at its arrival + D,
-- with work of at most C in pieces of at most the larger of S and 1.
pub record OfTask (x : TaskParams) (j : Job) : Type 0 where
  pub from : j.arrival ≤ℤ pos j.release
  pub to : pos j.release ≤ℤ (j.arrival +ℤ pos x.jitter)
  pub due : pos j.deadline ≡ j.arrival +ℤ pos x.deadline
  pub cost : work j ≤ x.cost
  pub pieces : All (λ p. p ≤ max x.section 1) j.pieces

-- The first of these jobs arrives `n` ticks or more after `a`, and each other one `n` or more after the one before.
abbrev pub Follow : ℕ → ℤ → List Job → Type 0
Follow n a [] = Unit {0}
Follow n a (j ∷ js) = ((a +ℤ pos n) ≤ℤ j.arrival) × Follow n j.arrival js

-- Each job but the first arrives `n` ticks or more after the one before.
abbrev pub Spaced : ℕ → List Job → Type 0
Spaced n [] = Unit {0}
Spaced n (j ∷ js) = Follow n j.arrival js

abbrev pub TaskPermits : TaskParams → List Job → Type 0
TaskPermits x js = All (OfTask x) js × Spaced x.period js

unfoldable pub task_meaning : TaskParams → Meaning
task_meaning x = record {
  amounts = record { due = task_due x; held = task_held x; ready = task_ready x; mark = task_mark x };
  Permits = TaskPermits x;
}

-- The sum, and the largest, of what f gives for each task; and whether f holds of one of them.
abbrev pub total : (TaskParams → ℕ) → List TaskParams → ℕ
total f [] = 0
total f (x ∷ xs) = f x + total f xs

abbrev pub largest : (TaskParams → ℕ) → List TaskParams → ℕ
largest f [] = 0
largest f (x ∷ xs) = max (f x) (largest f xs)

abbrev pub any : (TaskParams → Bool) → List TaskParams → Bool
any f [] = false
any f (x ∷ xs) = f x || any f xs

-- `js` can be dealt out, order kept, into one permitted list for each task.
abbrev pub Dealt : List TaskParams → List Job → Type 0
Dealt [] js = js ≡ []
Dealt (x ∷ xs) js = (mine : List Job) × (rest : List Job) × Deals js mine rest × TaskPermits x mine × Dealt xs rest

-- Tasks side by side: due and ready add up, held is the largest, marks are those of each.
unfoldable pub tasks_amounts : List TaskParams → Amounts
tasks_amounts xs = record {
  due = λ t. total (λ x. task_due x t) xs;
  held = λ t. largest (λ x. task_held x t) xs;
  ready = λ s. total (λ x. task_ready x s) xs;
  mark = λ t. any (λ x. task_mark x t) xs;
}

unfoldable pub tasks_meaning : List TaskParams → Meaning
tasks_meaning xs = record { amounts = tasks_amounts xs; Permits = Dealt xs }
