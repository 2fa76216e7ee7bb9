-- The search from below finds the least fixed point of `ready`, or there is none up to 100,000,000.
use Rattle.std.proofs.Common.{◌≡◌, ℕ, ◌^◌, ◌<◌, ◌≤◌, min, Some, None, sym, ◌∙◌, inl, inr, arith}
use Rattle.std.proofs.lemmas.Bool.{cases_lt}
use Rattle.theory.specs.Meaning.{Amounts, Rules, answered}
use Rattle.theory.specs.Verdict.{busy}
use Rattle.theory.proofs.BusyPeriod.{busy_idle, busy_at, busy_none}
use Rattle.judge.proofs.Questions.{answered_at}

-- Nothing is ready within 1 tick, by the answer `r`: the busy period is 0. And else something is.
pub idle : (m : Amounts) (r : ℕ) → r ≡ answered m.ready 1 → r ≡ 0 → Some 0 ≡ busy m
idle m r e z = sym (busy_idle m (omega arith))

pub works : (m : Amounts) (r : ℕ) → r ≡ answered m.ready 1 → (r ≡ 0 → ⊥) → m.ready 1 ≡ 0 → ⊥
works m r e n z = n (omega arith)

-- The search stands at w: no fixed point is below it, and it can only go up from here.
abbrev pub Searched : Amounts → ℕ → Type 0
Searched m w = (1 ≤ w) × (w ≤ 100000000) × (w ≤ m.ready w) × ((v : ℕ) → 1 ≤ v → v < w → m.ready v ≡ v → ⊥)

module _ (m : Amounts) (l : Rules m) (w next : ℕ) (inv : Searched m w) (e : next ≡ answered m.ready w) where
  next_is : next ≡ min (m.ready w) (2 ^ 40)
  next_is = e ∙ answered_at m.ready w inv.1

  -- the three ways of a turn, `next` being the answer at w: w is found, there is none, or the search goes on at `next`
  pub search_closed : (m.ready 1 ≡ 0 → ⊥) → next ≡ w → Some w ≡ busy m
  search_closed works z = sym (busy_at m w works inv.0 inv.1 (omega (arith, next_is)) inv.3)

  pub search_gone : (m.ready 1 ≡ 0 → ⊥) → 100000000 < next → None ≡ busy m
  search_gone works z = sym (busy_none m works (λ v a b f. elim (cases_lt v w) [ inl y ↦ inv.3 v a y f | inr y ↦ omega (arith, next_is, l.ready_mono w v y) ]))

  pub search_on : (next ≡ w → ⊥) → next ≤ 100000000 → Searched m next
  search_on d z =
      let n : next ≡ m.ready w = omega (arith, next_is) in (
        omega arith,
        z,
        omega (arith, l.ready_mono w next (omega arith)),
        λ v a b f. elim (cases_lt v w) [ inl y ↦ inv.3 v a y f | inr y ↦ omega (arith, l.ready_mono w v y) ],
      )

-- Further on, to a tick below which `ready` has no fixed point.
pub search_further : (m : Amounts) (w u : ℕ) → Searched m w → w ≤ u → u ≤ 100000000 → u ≤ m.ready u → ((v : ℕ) → w ≤ v → v < u → m.ready v ≡ v → ⊥) → Searched m u
search_further m w u s h b o p = (omega (arith, s.0), b, o, λ v a c f. elim (cases_lt v w) [ inl y ↦ s.3 v a y f | inr y ↦ p v y c f ])
