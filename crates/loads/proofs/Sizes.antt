-- The amounts of a task and the sums of a table are small enough not to overflow.
use Rattle.std.proofs.Common.{◌≡◌, ℕ, suc, ◌+◌, ◌-◌, ◌*◌, ◌/◌, ◌≤◌, List, [], ◌∷◌, length, Some, None, Option, inl, inr, div-le_self, arith}
use Rattle.std.proofs.lemmas.Bool.{cases_lt}
use Rattle.std.proofs.lemmas.Nat.{mul-le}
use Rattle.loads.specs.Params.{TaskParams, TaskRanges}
use Rattle.loads.specs.declared.entry.Entry.{Entry}
use Rattle.loads.specs.declared.table.Slot.{Slot}
use Rattle.loads.specs.Tasks.{ceil, task_due, task_ready, total}
use Rattle.loads.specs.Making.{task_params}
use Rattle.loads.specs.Channels.{put_before, held_content}
use Rattle.loads.specs.Ranged.{task_ranged, tasks_in}
use Rattle.loads.specs.OneTask as one

pub due_small : (t : ℕ) → t ≤ 100000000 → (x : TaskParams) → TaskRanges x → task_due x t ≤ 2000000000000000
due_small t h x ok = elim (cases_lt t (x.deadline - x.jitter)) [
  | inl a ↦ omega (arith, one.early x ok t a)
  | inr a ↦
      (let d = div-le_self (t + x.jitter - x.deadline) x.period in
      let m = mul-le x.cost (1 + (t + x.jitter - x.deadline) / x.period) 10000000 200000000 ok.cost_most (omega arith) in
      omega (arith, one.late x ok t a))
]

pub ready_small : (s : ℕ) → s ≤ 100000000 → (x : TaskParams) → TaskRanges x → task_ready x s ≤ 2000000000000000
ready_small s h x ok = elim (cases_lt 0 s) [
  | inl a ↦
      (let d = div-le_self (s + x.jitter + (x.period - 1)) x.period in
      let m = mul-le x.cost (ceil (s + x.jitter) x.period) 10000000 200000000 ok.cost_most (omega arith) in
      omega (arith, one.busy x ok s a))
  | inr a ↦ (let z : s ≡ 0 = omega arith in rw z (omega arith))
]

module _ (f : TaskParams → ℕ) (small : (x : TaskParams) → TaskRanges x → f x ≤ 2000000000000000) where
  put_small : (o : Option Entry) (xs : List TaskParams) (n : ℕ) → total f xs ≤ 2000000000000000 * n → total f (put_before (held_content o) xs) ≤ 2000000000000000 * suc n
  put_small None xs n h = omega arith
  put_small (Some e) xs n h = omega (arith, small (task_params e.task) (task_ranged e.task))

  pub total_small : (ss : List Slot) → total f (tasks_in ss) ≤ 2000000000000000 * length ss
  total_small [] = omega arith
  total_small (s ∷ ss) = put_small s.held (tasks_in ss) (length ss) (total_small ss)
