-- One task keeps law 5: the work of its jobs in a window is at most due, and with a section at most due and held.
use Rattle.std.specs.Prelude.{◌≡◌, ℕ, ◌+◌, ◌-◌, ◌*◌, ◌/◌, ◌<◌, ◌≤◌, max, Bool, true, false, cond, List, [], ◌∷◌, ℤ, ◌≤ℤ◌, nat_le, refl}
use Rattle.std.proofs.Common.{sym, ap, ◌∙◌, subst, inl, inr, arith, mul-add, mul-one, mul-zero}
use Rattle.std.proofs.Math.Nat.{add-div_right, div-eq_of_lt}
use Rattle.std.proofs.lemmas.Int.{ints}
use Rattle.std.proofs.lemmas.Bool.{cases_lt, lt-leb, leb-true, and_left, and_right, and_parts}
use Rattle.loads.specs.Params.{TaskParams, TaskRanges}
use Rattle.theory.specs.Jobs.{Job, All, Among, work, work_in, falls_in}
use Rattle.theory.specs.Meaning.{Laws}
use Rattle.loads.specs.Tasks.{task_due, task_held, task_meaning, TaskPermits, OfTask, Follow, Spaced}
use Rattle.loads.specs.OneTask as one

all_at : {X : Type 0} (P : X → Type 0) (k : X) (xs : List X) → All P xs → Among k xs → P k
all_at P k [] h m = absurd m
all_at P k (x ∷ xs) h (inl e) = subst P (sym e) h.0
all_at P k (x ∷ xs) h (inr m) = all_at P k xs h.1 m

all_imp : {X : Type 0} (P Q : X → Type 0) → ((x : X) → P x → Q x) → (xs : List X) → All P xs → All Q xs
all_imp P Q f [] h = tt
all_imp P Q f (x ∷ xs) h = (f x h.0, all_imp P Q f xs h.1)

none_in : (u e : ℕ) (js : List Job) → All (λ k. falls_in u e k ≡ false) js → work_in u e js ≡ 0
none_in u e [] h = refl
none_in u e (j ∷ js) h = let r = none_in u e js h.1 in rw h.0 (omega arith)

spaced_tail : (n : ℕ) (j : Job) (js : List Job) → Spaced n (j ∷ js) → Spaced n js
spaced_tail n j [] h = tt
spaced_tail n j (k ∷ js) h = h.1

module _ (x : TaskParams) (ok : TaskRanges x) where
  -- What a job's arrival says of its release and deadline.
  soon : (j : Job) → OfTask x j → j.deadline ≤ j.release + x.deadline
  soon j o = omega (arith, ints, o.from, o.due)

  far : (j : Job) → OfTask x j → j.release + x.deadline ≤ j.deadline + x.jitter
  far j o = omega (arith, ints, o.to, o.due)

  later : (j : Job) (a : ℤ) (js : List Job) → OfTask x j → j.arrival ≤ℤ a → All (OfTask x) js → Follow x.period a js
      → All (λ k. j.deadline + x.period ≤ k.deadline) js
  later j a [] o h os f = tt
  later j a (k ∷ js) o h os f = (
    omega (arith, ints, o.due, os.0.due, f.0),
    later j k.arrival js o (omega (arith, ints, f.0)) os.1 f.1,
  )

  -- Every job behind j in the list is due by T later.
  behind : (j : Job) (js : List Job) → All (OfTask x) (j ∷ js) → Spaced x.period (j ∷ js) → All (λ k. j.deadline + x.period ≤ k.deadline) js
  behind j js os s = later j j.arrival js os.0 (omega (arith, ints)) os.1 s

  -- Of jobs that are due from lo on if released at u or later: how much is due by e.
  counted : (u e lo : ℕ) (js : List Job) → All (OfTask x) js → Spaced x.period js → All (λ k. u ≤ k.release → lo ≤ k.deadline) js
      → work_in u e js ≤ x.cost * ((e + x.period - lo) / x.period)
  counted u e lo [] os s h = omega arith
  counted u e lo (j ∷ js) os s h =
      go (falls_in u e j) refl
      (counted u e lo js os.1 (spaced_tail x.period j js s) h.1)
      (λ d. counted u e (lo + x.period) js os.1 (spaced_tail x.period j js s)
      (all_imp (λ k. j.deadline + x.period ≤ k.deadline) (λ k. u ≤ k.release → lo + x.period ≤ k.deadline) (λ k a b. omega arith) js (behind j js os s)))
    where
      go : (b : Bool) → falls_in u e j ≡ b
          → work_in u e js ≤ x.cost * ((e + x.period - lo) / x.period)
          → (lo ≤ j.deadline → work_in u e js ≤ x.cost * ((e + x.period - (lo + x.period)) / x.period))
          → cond b (work j) 0 + work_in u e js ≤ x.cost * ((e + x.period - lo) / x.period)
      go false f skip take = omega arith
      go true f skip take =
          let a = and_parts (nat_le u j.release) (nat_le j.deadline e) f in
          let r : u ≤ j.release = leb-true u j.release a.0 in
          let d : j.deadline ≤ e = leb-true j.deadline e a.1 in
          let l : lo ≤ j.deadline = h.0 r in
          let t = take l in
          let q : e + x.period - lo ≡ e + x.period - (lo + x.period) + x.period = omega arith in
          let v : (e + x.period - lo) / x.period ≡ (e + x.period - (lo + x.period)) / x.period + 1 = ap (λ y. y / x.period) q ∙ add-div_right (e + x.period - (lo + x.period)) (omega arith) in
          let w : x.cost * ((e + x.period - lo) / x.period) ≡ x.cost * ((e + x.period - (lo + x.period)) / x.period) + x.cost = ap (λ y. x.cost * y) v ∙ mul-add x.cost ((e + x.period - (lo + x.period)) / x.period) 1 ∙ ap (λ y. x.cost * ((e + x.period - (lo + x.period)) / x.period) + y) (mul-one x.cost) in
          let c : work j ≤ x.cost = os.0.cost in
          omega arith

  -- That is the amount due.
  window : (u t : ℕ) → x.cost * ((u + t + x.period - (u + (x.deadline - x.jitter))) / x.period) ≡ task_due x t
  window u t = elim (cases_lt t (x.deadline - x.jitter)) [
    | inl a ↦
        (let q : (u + t + x.period - (u + (x.deadline - x.jitter))) / x.period ≡ 0 = div-eq_of_lt (omega arith) in
        ap (λ y. x.cost * y) q ∙ mul-zero x.cost ∙ sym (one.early x ok t a).0)
    | inr a ↦
        (let q : u + t + x.period - (u + (x.deadline - x.jitter)) ≡ t + x.jitter - x.deadline + x.period = omega arith in
        let r : (u + t + x.period - (u + (x.deadline - x.jitter))) / x.period ≡ 1 + (t + x.jitter - x.deadline) / x.period = omega (arith, ap (λ y. y / x.period) q, add-div_right (t + x.jitter - x.deadline) {k = x.period} (omega arith)) in
        ap (λ y. x.cost * y) r ∙ sym (one.late x ok t a).0)
  ]

  within : (js : List Job) → TaskPermits x js → (u t : ℕ) → work_in u (u + t) js ≤ task_due x t
  within js p u t =
      let c = counted u (u + t) (u + (x.deadline - x.jitter)) js p.0 p.1
      (all_imp (OfTask x) (λ k. u ≤ k.release → u + (x.deadline - x.jitter) ≤ k.deadline) (λ k o h. omega (arith, far k o)) js p.0) in
      omega (arith, window u t)

  -- Around a job that is released before u and due after e, nothing falls into the window.
  blocked : (u e : ℕ) (k : Job) → k.release < u → e < k.deadline → (js : List Job) → All (OfTask x) js → Spaced x.period js → Among k js → work_in u e js ≡ 0
  blocked u e k r d [] os s m = refl
  blocked u e k r d (j ∷ js) os s (inl q) =
      let b : All (λ i. k.deadline + x.period ≤ i.deadline) js = subst (λ (y : Job). All (λ i. y.deadline + x.period ≤ i.deadline) js) (sym q) (behind j js os s) in
      none_in u e (j ∷ js) (
        subst (λ (y : Job). falls_in u e y ≡ false) q (and_left (nat_le u k.release) (nat_le k.deadline e) (lt-leb u k.release r)),
        all_imp (λ i. k.deadline + x.period ≤ i.deadline) (λ i. falls_in u e i ≡ false) (λ i h. and_right (nat_le u i.release) (nat_le i.deadline e) (lt-leb i.deadline e (omega arith))) js b,
      )
  blocked u e k r d (j ∷ js) os s (inr m) =
      let b : j.deadline + x.period ≤ k.deadline = all_at (λ i. j.deadline + x.period ≤ i.deadline) k js (behind j js os s) m in
      let c = soon k (all_at (OfTask x) k js os.1 m) in
      let f : falls_in u e j ≡ false = and_left (nat_le u j.release) (nat_le j.deadline e) (lt-leb u j.release (omega (arith, far j os.0))) in
      let i = blocked u e k r d js os.1 (spaced_tail x.period j js s) m in
      rw f (omega arith)

  section_counts : (t : ℕ) → x.section ≤ task_due x t + task_held x t
  section_counts t = elim (cases_lt t (x.deadline - x.jitter)) [
    | inl a ↦ omega (arith, one.early x ok t a)
    | inr a ↦ omega (arith, one.one_due x ok t a, ok.section_cost)
  ]

  beside_held : (js : List Job) → TaskPermits x js → (u t z : ℕ) (k : Job) → Among k js
      → k.release < u → u + t < k.deadline → Among z k.pieces → 2 ≤ z
      → work_in u (u + t) js + z ≤ task_due x t + task_held x t
  beside_held js p u t z k m r d i n =
      let o = all_at (OfTask x) k js p.0 m in
      let y = all_at (λ q. q ≤ max x.section 1) z k.pieces o.pieces i in
      omega (arith, blocked u (u + t) k r d js p.0 p.1 m, section_counts t)

  pub task_laws : Laws (task_meaning x)
  unfolding task_meaning
  task_laws = record {
    rules = record {
      due_zero = (one.early x ok 0 (omega arith)).0;
      due_mono = one.due_mono x ok;
      ready_mono = one.ready_mono x ok;
      mark_zero = one.mark_zero x ok;
      due_still = one.due_still x ok;
      held_still = one.held_still x ok;
      sum_mono = one.sum_mono x ok;
      shift = one.shift x ok;
    };
    within = λ js w. within js;
    beside_held = λ js w. beside_held js;
  }
