-- The last mark below a tick, of a task and of a list of tasks.
use Rattle.std.specs.Prelude.{◌≡◌, ℕ, suc, ◌+◌, ◌-◌, ◌*◌, ◌/◌, ◌%◌, ◌<◌, ◌≤◌, List, ◌∷◌, Some, None, ◌==◌, nat_le}
use Rattle.std.proofs.Common.{ap, ◌∙◌, subst, arith, div-add-mod'}
use Rattle.std.proofs.lemmas.Bool.{and_from, and_left, and_right, le-leb, lt-leb, eq-eqb, ne_eqb}
use Rattle.std.proofs.lemmas.Nat.{mod-mul-add, mod_below}
use Rattle.loads.specs.Params.{TaskParams, TaskRanges}
use Rattle.theory.specs.Meaning.{last_mark, later}
use Rattle.loads.specs.Tasks.{task_mark, any}
use Rattle.theory.proofs.LastMark.{Last, last_is, last_either}

-- of a task
module _ (x : TaskParams) (ok : TaskRanges x) where
  pub before_start : (t : ℕ) → t ≤ x.deadline - x.jitter → last_mark (task_mark x) t ≡ None
  before_start t h = last_is (task_mark x) t None (λ u l. and_left (nat_le (x.deadline - x.jitter) u) _ (lt-leb (x.deadline - x.jitter) u (omega arith)))

  -- From D − J on it is the tick before t, less what stands over.
  past_start : (p s : ℕ) → p + (x.deadline - x.jitter) ≡ s → Last (task_mark x) (suc s) (Some (s - p % x.period))
  past_start p s e =
      let d = div-add-mod' p x.period in
      let b = mod_below p x.period (omega arith) in (
        omega arith,
        and_from (nat_le (x.deadline - x.jitter) (s - p % x.period)) ((s - p % x.period + x.jitter - x.deadline) % x.period == 0)
            (le-leb (x.deadline - x.jitter) (s - p % x.period) (omega arith))
            (let q : s - p % x.period + x.jitter - x.deadline ≡ p / x.period * x.period + 0 = omega arith in
            eq-eqb _ 0 (ap (λ y. y % x.period) q ∙ mod-mul-add (p / x.period) x.period 0 (omega arith))),
        λ u a l.
            let q : u + x.jitter - x.deadline ≡ p / x.period * x.period + (u - (s - p % x.period)) = omega arith in
            let m : (u + x.jitter - x.deadline) % x.period ≡ u - (s - p % x.period) = ap (λ y. y % x.period) q ∙ mod-mul-add (p / x.period) x.period (u - (s - p % x.period)) (omega arith) in
            and_right (nat_le (x.deadline - x.jitter) u) ((u + x.jitter - x.deadline) % x.period == 0) (ne_eqb _ 0 (omega arith)),
      )

  pub after_start : (t : ℕ) → x.deadline - x.jitter < t → last_mark (task_mark x) t ≡ Some (t - 1 - (t - 1 - (x.deadline - x.jitter)) % x.period)
  after_start t h =
      let q : suc (t - 1) ≡ t = omega arith in
      last_is (task_mark x) t _ (subst (λ y. Last (task_mark x) y (Some (t - 1 - (t - 1 - (x.deadline - x.jitter)) % x.period))) q (past_start (t - 1 - (x.deadline - x.jitter)) (t - 1) (omega arith)))

pub last_cons : (x : TaskParams) (xs : List TaskParams) (t : ℕ) → last_mark (λ u. any (λ y. task_mark y u) (x ∷ xs)) t ≡ later (last_mark (task_mark x) t) (last_mark (λ u. any (λ y. task_mark y u) xs) t)
last_cons x xs t = last_either (task_mark x) (λ u. any (λ y. task_mark y u) xs) t
