-- The busy period: the search for it, and what it is where it closes.
use Rattle.std.proofs.Common.{◌≡◌, ℕ, zero, suc, ◌+◌, ◌<◌, ◌≤◌, Bool, true, false, eqb, Some, None, Option, sym, refl, ap, ◌∙◌, subst, inl, inr, arith}
use Rattle.std.proofs.lemmas.Bool.{eqb-true, eqb-false, eq-eqb, ne_eqb, cases_Bool, cases_eq}
use Rattle.theory.specs.Meaning.{Amounts, Rules}
use Rattle.theory.specs.Verdict.{first_fixed, busy}
use Rattle.theory.specs.Statements.{Busy, ClosesExactly}

first_hit : (f : ℕ → ℕ) (n w : ℕ) → f w ≡ w → first_fixed f (suc n) w ≡ Some w
unfolding first_fixed
first_hit f n w e = rw (eq-eqb (f w) w e, first_fixed)

first_miss : (f : ℕ → ℕ) (n w : ℕ) → (f w ≡ w → ⊥) → first_fixed f (suc n) w ≡ first_fixed f n (w + 1)
unfolding first_fixed
first_miss f n w e = rw (ne_eqb (f w) w e, first_fixed)

-- The search finds the first fixed point of the n ticks from w on, or none where there is none.
pub first_at : (f : ℕ → ℕ) (n w x : ℕ) → w ≤ x → x < w + n → f x ≡ x → ((v : ℕ) → w ≤ v → v < x → f v ≡ v → ⊥) → first_fixed f n w ≡ Some x
first_at f zero w x a b e none = absurd (omega arith)
first_at f (suc n) w x a b e none = elim (cases_Bool (eqb w x)) [
  | inl y ↦ (let q : w ≡ x = eqb-true w x y in subst (λ z. first_fixed f (suc n) z ≡ Some x) (sym q) (first_hit f n x e))
  | inr y ↦
      (let q : w ≡ x → ⊥ = eqb-false w x y in
      first_miss f n w (λ d. none w (omega arith) (omega arith) d)
      ∙ first_at f n (w + 1) x (omega arith) (omega arith) e (λ v c. none v (omega arith)))
]

pub first_none : (f : ℕ → ℕ) (n w : ℕ) → ((v : ℕ) → w ≤ v → v < w + n → f v ≡ v → ⊥) → first_fixed f n w ≡ None
unfolding first_fixed
first_none f zero w none = refl
first_none f (suc n) w none =
    first_miss f n w (λ d. none w (omega arith) (omega arith) d) ∙ first_none f n (w + 1) (λ v a b. none v (omega arith) (omega arith))

-- What a search that finds x says: x is the first fixed point of these ticks.
abbrev First : (ℕ → ℕ) → ℕ → ℕ → Option ℕ → Type 0
First f n w None = Unit {0}
First f n w (Some x) = (w ≤ x) × (x < w + n) × (f x ≡ x) × ((v : ℕ) → w ≤ v → v < x → f v ≡ v → ⊥)

first_weaken : (f : ℕ → ℕ) (n w : ℕ) → (f w ≡ w → ⊥) → (o : Option ℕ) → First f n (w + 1) o → First f (suc n) w o
first_weaken f n w d None h = tt
first_weaken f n w d (Some x) h =
    (omega arith, omega arith, h.2, λ v a b e. elim (cases_eq v w) [ inl q ↦ d (subst (λ z. f z ≡ z) q e) | inr k ↦ h.3 v (omega arith) b e ])

first_step : (f : ℕ → ℕ) (n w : ℕ) (b : Bool) → eqb (f w) w ≡ b → First f n (w + 1) (first_fixed f n (w + 1)) → First f (suc n) w (elim b [ true ↦ Some w | false ↦ first_fixed f n (w + 1) ])
first_step f n w true e h = (omega arith, omega arith, eqb-true (f w) w e, λ v a b x. omega arith)
first_step f n w false e h = first_weaken f n w (eqb-false (f w) w e) (first_fixed f n (w + 1)) h

pub first_says : (f : ℕ → ℕ) (n w : ℕ) → First f n w (first_fixed f n w)
unfolding first_fixed
first_says f zero w = tt
first_says f (suc n) w = first_step f n w (eqb (f w) w) refl (first_says f n (w + 1))

-- The busy period, by the search from 1 on.

pub busy_idle : (m : Amounts) → m.ready 1 ≡ 0 → busy m ≡ Some 0
unfolding busy
busy_idle m e = rw (eq-eqb (m.ready 1) 0 e, busy)

busy_works : (m : Amounts) → (m.ready 1 ≡ 0 → ⊥) → busy m ≡ first_fixed m.ready 100000000 1
unfolding busy
busy_works m e = rw (ne_eqb (m.ready 1) 0 e, busy)

pub busy_at : (m : Amounts) (w : ℕ) → (m.ready 1 ≡ 0 → ⊥) → 1 ≤ w → w ≤ 100000000 → m.ready w ≡ w → ((v : ℕ) → 1 ≤ v → v < w → m.ready v ≡ v → ⊥) → busy m ≡ Some w
busy_at m w r a b e none = busy_works m r ∙ first_at m.ready 100000000 1 w a (omega arith) e none

pub busy_none : (m : Amounts) → (m.ready 1 ≡ 0 → ⊥) → ((v : ℕ) → 1 ≤ v → v ≤ 100000000 → m.ready v ≡ v → ⊥) → busy m ≡ None
busy_none m r none = busy_works m r ∙ first_none m.ready 100000000 1 (λ v a b. none v a (omega arith))

-- What a busy period that closed at w is.
pub record Closed (m : Amounts) (w : ℕ) : Type 0 where
  pub within : w ≤ 100000000
  pub fixed : m.ready w ≡ w
  pub idle : w ≡ 0 → m.ready 1 ≡ 0

abbrev Closes : Amounts → Option ℕ → Type 0
Closes m None = Unit {0}
Closes m (Some w) = Closed m w

closes_first : (m : Amounts) (o : Option ℕ) → First m.ready 100000000 1 o → Closes m o
closes_first m None h = tt
closes_first m (Some w) h = record { within = omega arith; fixed = h.2; idle = λ e. absurd (omega arith) }

closes_step : (m : Amounts) → Rules m → (b : Bool) → eqb (m.ready 1) 0 ≡ b → Closes m (elim b [ true ↦ Some 0 | false ↦ first_fixed m.ready 100000000 1 ])
closes_step m l true e =
    let z : m.ready 1 ≡ 0 = eqb-true (m.ready 1) 0 e in
    record { within = omega arith; fixed = omega (arith, l.ready_mono 0 1 (omega arith)); idle = λ _. z }
closes_step m l false e = closes_first m (first_fixed m.ready 100000000 1) (first_says m.ready 100000000 1)

closes : (m : Amounts) → Rules m → Closes m (busy m)
unfolding busy
closes m l = closes_step m l (eqb (m.ready 1) 0) refl

pub closed : (m : Amounts) → Rules m → (w : ℕ) → busy m ≡ Some w → Closed m w
closed m l w e = subst (λ o. Closes m o) e (closes m l)

busy_first : (m : Amounts) (w : ℕ) → (m.ready 1 ≡ 0 → ⊥) → busy m ≡ Some w → First m.ready 100000000 1 (Some w)
busy_first m w n e = subst (λ o. First m.ready 100000000 1 o) (sym (busy_works m n) ∙ e) (first_says m.ready 100000000 1)

some_same : (a b : ℕ) → ◌≡◌ {A = Option ℕ} (Some a) (Some b) → a ≡ b
some_same a b e = cc

closes_is : (m : Amounts) (w : ℕ) → busy m ≡ Some w → Busy m w × (w ≤ 100000000)
closes_is m w e = elim (cases_eq (m.ready 1) 0) [
  | inl z ↦ (let q : 0 ≡ w = some_same 0 w (sym (busy_idle m z) ∙ e) in (inl (omega arith, z), omega arith))
  | inr n ↦ (let f = busy_first m w n e in (inr (f.0, n, f.2, f.3), omega arith))
]

is_closed : (m : Amounts) (w : ℕ) → Busy m w → w ≤ 100000000 → busy m ≡ Some w
is_closed m w (inl p) h = busy_idle m p.1 ∙ ap (λ x. Some x) (sym p.0)
is_closed m w (inr p) h = busy_at m w p.1 p.0 h p.2 p.3

pub closes_exactly : ClosesExactly
closes_exactly m w = (closes_is m w, λ p. is_closed m w p.0 p.1)

-- Where it does not close, there is no fixed point.
pub first_never : (f : ℕ → ℕ) (n w : ℕ) → first_fixed f n w ≡ None → (v : ℕ) → w ≤ v → v < w + n → f v ≡ v → ⊥
first_never f zero w e v a b q = omega arith
first_never f (suc n) w e v a b q = elim (cases_eq (f w) w) [
  | inl y ↦ (let z : ◌≡◌ {A = ℕ} 0 1 = cc (first_hit f n w y) in omega arith)
  | inr d ↦ elim (cases_eq v w) [
    | inl y ↦ d (subst (λ x. f x ≡ x) y q)
    | inr k ↦ first_never f n (w + 1) (sym (first_miss f n w d) ∙ e) v (omega arith) (omega arith) q
  ]
]

pub busy_never : (m : Amounts) → (m.ready 1 ≡ 0 → ⊥) → busy m ≡ None → (v : ℕ) → 1 ≤ v → v ≤ 100000000 → m.ready v ≡ v → ⊥
busy_never m r e v a b q = first_never m.ready 100000000 1 (sym (busy_works m r) ∙ e) v a (omega arith) q
