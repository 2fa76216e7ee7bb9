-- Uncut rows over places in which tasks can stand: what the tasks so far have grown to, and the tasks ahead, make the whole.
use Rattle.std.proofs.Common.{◌≡◌, refl, ℕ, ◌+◌, ◌-◌, ◌*◌, ◌/◌, ◌^◌, ◌<◌, ◌≤◌, min, List, [], ◌∷◌, map, length, get_or, Some, Option, option_map, ap, ap₂, ◌∙◌, ◌⊎◌, inl, inr, arith}
use Rattle.std.specs.Borrow.{Bor}
use Rattle.std.specs.List.{range_with_len}
use Rattle.std.proofs.Math.Nat.{add-div_right}
use Rattle.std.proofs.lemmas.Bool.{cases_lt, le-leb, lt-leb}
use Rattle.std.proofs.lemmas.List.FromFn.{fill_by_all, length-map-range_with_len, get_or-map-range_with_len}
use Rattle.theory.specs.Jobs.{All}
use Rattle.theory.specs.Rows.{uncut_row}
use Rattle.loads.specs.declared.task.Task.{Task}
use Rattle.loads.specs.Params.{TaskParams, TaskRanges}
use Rattle.loads.specs.Places.{params_behind}
use Rattle.loads.specs.Tasks.{total, task_due, task_ready}
use Rattle.loads.specs.OneTask as one
use Rattle.loads.specs.TrainCounts.{upto_some}
use Rattle.loads.specs.Steps.{grown}
use Rattle.loads.proofs.PlaceLoops.{ahead, after, all, none_ahead, one_ahead}

-- What tasks grow to together within t ticks, where f gives the first step of each one.
abbrev pub grown_all : (TaskParams → ℕ) → ℕ → List TaskParams → ℕ
grown_all f t xs = total (λ x. grown x (f x) t) xs

-- A task's work that can fall due grows from D on, and its work that can be released from the first tick on.
pub due_grown : (x : TaskParams) (t : ℕ) → task_due x t ≡ grown x x.deadline t
unfolding grown
due_grown x t = go (cases_lt t (x.deadline - x.jitter))
  where
    go : (t < x.deadline - x.jitter) ⊎ (x.deadline - x.jitter ≤ t) → task_due x t ≡ grown x x.deadline t
    go (inl h) = let l : t + x.jitter < x.deadline = omega arith in rw (lt-leb (x.deadline - x.jitter) t h, lt-leb x.deadline (t + x.jitter) l) (omega arith)
    go (inr h) = let l : x.deadline ≤ t + x.jitter = omega arith in rw (le-leb (x.deadline - x.jitter) t h, le-leb x.deadline (t + x.jitter) l) refl

ready_grown : (x : TaskParams) → TaskRanges x → (t : ℕ) → task_ready x (t + 1) ≡ grown x 0 t
unfolding grown
ready_grown x ok t =
    let e : t + 1 + x.jitter + (x.period - 1) ≡ t + x.jitter + x.period = omega arith in
    let d = ap (λ n. n / x.period) e ∙ add-div_right (t + x.jitter) {k = x.period} ok.period_least in
    let z : t + x.jitter - 0 ≡ t + x.jitter = omega arith in
    let z' = ap (λ n. n / x.period) z in
    let u = upto_some x.period (t + x.jitter) 0 (omega arith) in
    one.busy x ok (t + 1) (omega arith) ∙ ap (λ n. x.cost * n) (omega arith)

pub ready_grown_all : (xs : List TaskParams) → All TaskRanges xs → (t : ℕ) → total (λ x. task_ready x (t + 1)) xs ≡ grown_all (λ x. 0) t xs
ready_grown_all [] h t = refl
ready_grown_all (x ∷ xs) h t = ap₂ (λ a b. a + b) (ready_grown x h.0 t) (ready_grown_all xs h.1 t)

module _ {P : Type 0} (held : P → Option TaskParams) (ps : List P) (i : ℕ) where
  -- at the end
  pub row_end : (f : TaskParams → ℕ) (t r m : ℕ) → length ps ≤ i → min (r + grown_all f t (ahead held ps i)) m ≡ min (grown_all f t (all held ps i)) m → min r m ≡ min (grown_all f t (all held ps i)) m
  row_end f t r m h v = omega (arith, ap (grown_all f t) (none_ahead held ps i h))

  -- a place with a task, which adds its steps to r
  pub row_turn : (p : P) → i < length ps → p ≡ get_or ps i p → (x : Bor Task) → option_map params_behind (Some x) ≡ held p
      → (f : TaskParams → ℕ) (t r s n m w : ℕ) → n ≡ f (params_behind x) → min s m ≡ min (r + grown (params_behind x) n t) m
      → min (r + grown_all f t (ahead held ps i)) m ≡ w → min (s + grown_all f t (after held ps i)) m ≡ w
  row_turn p h e x q f t r s n m w k a v =
      let k' = ap (λ b. grown (params_behind x) b t) k in
      omega (arith, ap (grown_all f t) (one_ahead held ps i p h e (Some x) q))

-- An uncut row whose places are those of f.
pub row_is : (f g : ℕ → ℕ) (w v : ℕ) (xs : List ℕ) → v ≡ min w 100000000 → xs ≡ map g (range_with_len 0 256)
    → ((i : ℕ) → i < 256 → g i ≡ min (f (v + i)) (2 ^ 40)) → xs ≡ uncut_row f w
unfolding uncut_row
row_is f g w v xs e q h =
    fill_by_all (λ i. min (f (min w 100000000 + i)) (2 ^ 40)) xs 256 0
    (ap length q ∙ length-map-range_with_len g 0 256)
    (λ k l. ap (λ ys. get_or ys k 0) q ∙ get_or-map-range_with_len g 0 256 k k 0 l (omega arith) ∙ h k l ∙ ap (λ u. min (f (u + k)) (2 ^ 40)) e)
