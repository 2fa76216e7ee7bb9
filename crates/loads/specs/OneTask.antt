-- One task keeps the laws of the amounts, 1 to 4.
use Rattle.std.specs.Prelude.{◌≡◌, ℕ, ◌+◌, ◌-◌, ◌*◌, ◌/◌, ◌%◌, ◌<◌, ◌≤◌, false, ◌⊎◌, ◌==◌, ◌≢◌, nat_le, refl}
use Rattle.std.proofs.Common.{sym, ap, ◌∙◌, inl, inr, arith, mul-le-mul_left, mul-add, mul-one}
use Rattle.std.proofs.Math.Nat.{zero-mod, add-div_right}
use Rattle.std.proofs.lemmas.Bool.{cases_lt, cases_eq, lt-ltb, le-ltb, le-leb, lt-leb, ne_eqb, eqb-false, leb-false, and_left, and_cases}
use Rattle.loads.specs.Params.{TaskParams, TaskRanges}
use Rattle.loads.specs.Tasks.{ceil, task_due, task_held, task_ready, task_mark}
use Rattle.loads.specs.Quotients.{div_mono, ceil_mono, ceil_positive, div_still, div_split}

module _ (x : TaskParams) (ok : TaskRanges x) where
  -- Before D − J nothing is due and the section is held; from there on it is the other way round.
  pub early : (t : ℕ) → t < x.deadline - x.jitter → (task_due x t ≡ 0) × (task_held x t ≡ x.section)
  early t h = (rw (lt-leb (x.deadline - x.jitter) t h), rw (lt-ltb t (x.deadline - x.jitter) h))

  pub late : (t : ℕ) → x.deadline - x.jitter ≤ t → (task_due x t ≡ x.cost * (1 + (t + x.jitter - x.deadline) / x.period)) × (task_held x t ≡ 0)
  late t h = (rw (le-leb (x.deadline - x.jitter) t h), rw (le-ltb t (x.deadline - x.jitter) h))

  idle : task_ready x 0 ≡ 0
  idle = refl

  pub busy : (s : ℕ) → 1 ≤ s → task_ready x s ≡ x.cost * ceil (s + x.jitter) x.period
  busy s h = rw (ne_eqb s 0 (omega arith))

  -- at least one whole job
  pub one_due : (t : ℕ) → x.deadline - x.jitter ≤ t → x.cost ≤ task_due x t
  one_due t h =
      let m = mul-add x.cost 1 ((t + x.jitter - x.deadline) / x.period) in
      let n = mul-one x.cost in
      omega (arith, late t h)

  one_ready : (s : ℕ) → 1 ≤ s → x.cost ≤ task_ready x s
  one_ready s h =
      let c : 1 ≤ ceil (s + x.jitter) x.period = ceil_positive x.period (s + x.jitter) (omega arith) (omega arith) in
      let m = mul-le-mul_left x.cost c in
      let n = mul-one x.cost in
      omega (arith, busy s h)

  pub due_mono : (s t : ℕ) → s ≤ t → task_due x s ≤ task_due x t
  due_mono s t h = elim (cases_lt s (x.deadline - x.jitter)) [
    | inl e ↦ omega (arith, early s e)
    | inr l ↦
        (let d : (s + x.jitter - x.deadline) / x.period ≤ (t + x.jitter - x.deadline) / x.period = div_mono x.period (s + x.jitter - x.deadline) (t + x.jitter - x.deadline) (omega arith) (omega arith) in
        let d' : 1 + (s + x.jitter - x.deadline) / x.period ≤ 1 + (t + x.jitter - x.deadline) / x.period = omega arith in
        let m = mul-le-mul_left x.cost d' in
        omega (arith, late s l, late t (omega arith)))
  ]

  pub ready_mono : (s t : ℕ) → s ≤ t → task_ready x s ≤ task_ready x t
  ready_mono s t h = elim (cases_lt 0 s) [
    | inl a ↦
        (let c : ceil (s + x.jitter) x.period ≤ ceil (t + x.jitter) x.period = ceil_mono x.period (s + x.jitter) (t + x.jitter) (omega arith) (omega arith) in
        let m = mul-le-mul_left x.cost c in
        omega (arith, busy s a, busy t (omega arith)))
    | inr a ↦
        (let z : s ≡ 0 = omega arith in
        rw z (omega arith))
  ]

  pub mark_zero : task_mark x 0 ≡ false
  mark_zero = and_left _ _ (lt-leb (x.deadline - x.jitter) 0 (omega arith))

  -- at a tick that is no mark
  pub no_mark : (t : ℕ) → task_mark x (t + 1) ≡ false
      → (t + 1 < x.deadline - x.jitter) ⊎ ((x.deadline - x.jitter ≤ t) × ((t + 1 + x.jitter - x.deadline) % x.period ≢ 0))
  no_mark t h = elim (and_cases (nat_le (x.deadline - x.jitter) (t + 1)) ((t + 1 + x.jitter - x.deadline) % x.period == 0) h) [
    | inl a ↦ inl (leb-false (x.deadline - x.jitter) (t + 1) a)
    | inr b ↦ go (cases_lt (t + 1) (x.deadline - x.jitter)) (cases_eq (t + 1) (x.deadline - x.jitter)) (eqb-false ((t + 1 + x.jitter - x.deadline) % x.period) 0 b)
  ]
    where
      go : (t + 1 < x.deadline - x.jitter) ⊎ (x.deadline - x.jitter ≤ t + 1) → (t + 1 ≡ x.deadline - x.jitter) ⊎ (t + 1 ≢ x.deadline - x.jitter)
          → ((t + 1 + x.jitter - x.deadline) % x.period ≢ 0)
          → (t + 1 < x.deadline - x.jitter) ⊎ ((x.deadline - x.jitter ≤ t) × ((t + 1 + x.jitter - x.deadline) % x.period ≢ 0))
      go (inl a) e n = inl a
      go (inr a) (inl e) n =
          let z : t + 1 + x.jitter - x.deadline ≡ 0 = omega arith in
          absurd (n (ap (λ y. y % x.period) z ∙ zero-mod x.period))
      go (inr a) (inr e) n = inr (omega arith, n)

  pub due_still : (t : ℕ) → task_mark x (t + 1) ≡ false → task_due x (t + 1) ≡ task_due x t
  due_still t h = elim (no_mark t h) [
    | inl a ↦ omega (arith, early (t + 1) a, early t (omega arith))
    | inr b ↦
        (let l : x.deadline - x.jitter ≤ t = b.0 in
        let e : t + 1 + x.jitter - x.deadline ≡ t + x.jitter - x.deadline + 1 = omega arith in
        let n : (t + x.jitter - x.deadline + 1) % x.period ≡ 0 → ⊥ = λ z. b.1 (ap (λ y. y % x.period) e ∙ z) in
        let d : (t + 1 + x.jitter - x.deadline) / x.period ≡ (t + x.jitter - x.deadline) / x.period = ap (λ y. y / x.period) e ∙ div_still x.period (t + x.jitter - x.deadline) (omega arith) n in
        (late (t + 1) (omega arith)).0 ∙ ap (λ q. x.cost * (1 + q)) d ∙ sym (late t l).0)
  ]

  pub held_still : (t : ℕ) → task_mark x (t + 1) ≡ false → task_held x (t + 1) ≡ task_held x t
  held_still t h = elim (no_mark t h) [
    | inl a ↦ omega (arith, early (t + 1) a, early t (omega arith))
    | inr b ↦ (let l : x.deadline - x.jitter ≤ t = b.0 in omega (arith, late (t + 1) (omega arith), late t l))
  ]

  pub sum_mono : (s t : ℕ) → s ≤ t → task_due x s + task_held x s ≤ task_due x t + task_held x t
  sum_mono s t h = elim (cases_lt s (x.deadline - x.jitter)) [
    | inl a ↦ elim (cases_lt t (x.deadline - x.jitter)) [
      | inl b ↦ omega (arith, early s a, early t b)
      | inr b ↦ omega (arith, early s a, one_due t b, ok.section_cost)
    ]
    | inr a ↦ omega (arith, (late s a).1, due_mono s t h)
  ]

  pub shift : (s t : ℕ) → 1 ≤ s → task_due x (s + t) + task_held x (s + t) ≤ task_ready x s + task_due x t
  shift s t h = elim (cases_lt (s + t) (x.deadline - x.jitter)) [
    | inl a ↦ omega (arith, early (s + t) a, one_ready s h, ok.section_cost)
    | inr a ↦ elim (cases_lt t (x.deadline - x.jitter)) [
      | inl b ↦
          (let q = add-div_right (s + t + x.jitter - x.deadline) {k = x.period} (omega arith) in
          let r : (s + t + x.jitter - x.deadline + x.period) / x.period ≤ ceil (s + x.jitter) x.period = div_mono x.period (s + t + x.jitter - x.deadline + x.period) (s + x.jitter + (x.period - 1)) (omega arith) (omega arith) in
          let c : 1 + (s + t + x.jitter - x.deadline) / x.period ≤ ceil (s + x.jitter) x.period = omega arith in
          let m = mul-le-mul_left x.cost c in
          omega (arith, late (s + t) a, busy s h))
      | inr b ↦
          (let e : s + t + x.jitter - x.deadline ≡ s + (t + x.jitter - x.deadline) = omega arith in
          let q = div_split x.period s (t + x.jitter - x.deadline) (omega arith) in
          let r = ceil_mono x.period s (s + x.jitter) (omega arith) (omega arith) in
          let f : (s + t + x.jitter - x.deadline) / x.period ≡ (s + (t + x.jitter - x.deadline)) / x.period = ap (λ y. y / x.period) e in
          let c : 1 + (s + t + x.jitter - x.deadline) / x.period ≤ ceil (s + x.jitter) x.period + (1 + (t + x.jitter - x.deadline) / x.period) = omega arith in
          let m = mul-le-mul_left x.cost c in
          let n = mul-add x.cost (ceil (s + x.jitter) x.period) (1 + (t + x.jitter - x.deadline) / x.period) in
          omega (arith, late (s + t) a, late t b, busy s h))
    ]
  ]
