-- What a claim is, and that it never falls.
use Rattle.std.proofs.Common.{◌≡◌, ℕ, ◌+◌, ◌<◌, ◌≤◌, Bool, true, false, cond, eqb, ◌⊎◌, refl, inl, inr, arith}
use Rattle.std.proofs.lemmas.Bool.{eqb-true, eqb-false}
use Rattle.theory.specs.Meaning.{Amounts, Rules, claim}

pub claim_cases : (m : Amounts) (t : ℕ) → ((m.due t ≡ 0) × (claim m t ≡ 0)) ⊎ ((0 < m.due t) × (claim m t ≡ m.due t + m.held t))
unfolding claim
claim_cases m t = go (eqb (m.due t) 0) refl
  where
    go : (b : Bool) → eqb (m.due t) 0 ≡ b → ((m.due t ≡ 0) × (cond b 0 (m.due t + m.held t) ≡ 0)) ⊎ ((0 < m.due t) × (cond b 0 (m.due t + m.held t) ≡ m.due t + m.held t))
    go true e = inl (eqb-true (m.due t) 0 e, refl)
    go false e = let n : m.due t ≡ 0 → ⊥ = eqb-false (m.due t) 0 e in inr (omega arith, refl)

pub claim_is : (m : Amounts) (t : ℕ) → 0 < m.due t → claim m t ≡ m.due t + m.held t
claim_is m t h = omega (arith, claim_cases m t)

pub claim_mono : (m : Amounts) → Rules m → (s t : ℕ) → s ≤ t → claim m s ≤ claim m t
claim_mono m l s t h = omega (arith, claim_cases m s, claim_cases m t, l.due_mono s t h, l.sum_mono s t h)
