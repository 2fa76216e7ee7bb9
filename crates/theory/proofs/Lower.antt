-- A load with smaller amounts than an accepted one is accepted.
use Rattle.std.proofs.Common.{◌≡◌, ℕ, zero, suc, ◌<◌, ◌≤◌, Some, None, Option, refl, inl, inr, arith}
use Rattle.std.proofs.lemmas.Bool.{cases_eq}
use Rattle.theory.specs.Meaning.{Amounts, Rules, claim}
use Rattle.theory.specs.Verdict.{busy, Accepted}
use Rattle.theory.specs.Statements.{Lower}
use Rattle.theory.proofs.BusyPeriod.{busy_idle, busy_never, closed}
use Rattle.theory.proofs.Claims.{claim_cases}

module _ (a b : Amounts) (la : Rules a) (lb : Rules b) (less : Lower a b) where
  -- Without a fixed point, more is ready than the tick says.
  above : (a.ready 1 ≡ 0 → ⊥) → ((v : ℕ) → 1 ≤ v → v ≤ 100000000 → a.ready v ≡ v → ⊥) → (v : ℕ) → suc v ≤ 100000000 → suc v < a.ready (suc v)
  above works none zero h = let d = none 1 (omega arith) h in let n : a.ready 1 ≡ 1 → ⊥ = d in let z : a.ready 1 ≡ 0 → ⊥ = works in omega arith
  above works none (suc v) h =
      let i = above works none v (omega arith) in
      let n : a.ready (suc (suc v)) ≡ suc (suc v) → ⊥ = none (suc (suc v)) (omega arith) h in
      omega (arith, la.ready_mono (suc v) (suc (suc v)) (omega arith))

  closes_open : (w : ℕ) → busy b ≡ Some w → (a.ready 1 ≡ 0 → ⊥) → busy a ≡ None → ⊥
  closes_open zero e works n = let c = closed b lb 0 e in works (omega (arith, c.idle refl, less.ready 1))
  closes_open (suc w) e works n =
      let c = closed b lb (suc w) e in
      omega (arith, above works (busy_never a works n) w c.within, less.ready (suc w), c.fixed)

  closes_lower : (w : ℕ) → busy b ≡ Some w → (v : ℕ) × (busy a ≡ Some v)
  closes_lower w e = elim (cases_eq (a.ready 1) 0) [ inl z ↦ (0, busy_idle a z) | inr n ↦ go n (busy a) refl ]
    where
      go : (a.ready 1 ≡ 0 → ⊥) → (o : Option ℕ) → busy a ≡ o → (v : ℕ) × (busy a ≡ Some v)
      go n None q = absurd (closes_open w e n q)
      go n (Some v) q = (v, q)

  claim_lower : (t : ℕ) → claim b t ≤ t → claim a t ≤ t
  claim_lower t h = omega (arith, claim_cases a t, claim_cases b t, less.due t, less.held t)

  pub accepted_lower : Accepted b → Accepted a
  accepted_lower h = (closes_lower h.0.0 h.0.1, λ t. claim_lower t (h.1 t))
