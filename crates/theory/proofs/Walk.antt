-- The walk finds what the look finds.
use Rattle.std.proofs.Common.{◌≡◌, ℕ, zero, suc, ◌<◌, ◌≤◌, Bool, true, false, ltb, ◌⊎◌, Some, None, Option, sym, refl, ap, ◌∙◌, inl, inr, arith}
use Rattle.std.proofs.lemmas.Bool.{ltb-true, ltb-false}
use Rattle.theory.specs.Meaning.{Amounts, Rules, claim, last_mark}
use Rattle.theory.specs.Verdict.{step, walk_down, look_below, found, over, walk, look, busy}
use Rattle.theory.specs.Statements.{WalkIsLook}
use Rattle.theory.proofs.LastMark.{Last, last_says}
use Rattle.theory.proofs.Claims.{claim_mono}
use Rattle.theory.proofs.Look.{onward_last, look_late, look_jump, look_miss, no_claim}

-- A tick at which the walk may stand: a mark, or one that its claim does not exceed.
abbrev pub Stands : Amounts → ℕ → Type 0
Stands m t = (m.mark t ≡ true) ⊎ (claim m t ≤ t)

module _ (m : Amounts) (l : Rules m) where
  -- n steps are enough below n.
  Enough : ℕ → Type 0
  Enough n = (s : ℕ) → s < n → Stands m s → walk_down m n (Some s) ≡ look_below m (suc s)

  walk_last : (n t : ℕ) → t ≤ n → Enough n → walk_down m n (last_mark m.mark t) ≡ look_below m t
  unfolding walk_down Enough
  walk_last n t h ih = go (last_mark m.mark t) (last_says m.mark t)
    where
      go : (o : Option ℕ) → Last m.mark t o → walk_down m n o ≡ look_below m t
      go None says = sym (onward_last m t None says)
      go (Some s) says = ih s (omega arith) (inl says.1) ∙ sym (onward_last m t (Some s) says)

  walk_lower : (n t : ℕ) → t ≤ n → Enough n → claim m t ≤ t → (b : Bool) → ltb (claim m t) t ≡ b
      → walk_down m n (elim b [ true ↦ Some (claim m t) | false ↦ last_mark m.mark t ]) ≡ look_below m (suc t)
  unfolding Enough
  walk_lower n t h ih a true e =
      let c : claim m t < t = ltb-true (claim m t) t e in
      ih (claim m t) (omega arith) (inr (claim_mono m l (claim m t) t (omega arith))) ∙ sym (look_jump m l t c)
  walk_lower n t h ih a false e = walk_last n t h ih ∙ sym (look_miss m t (no_claim m t a))

  walk_late : (t : ℕ) → Stands m t → t < claim m t → Some (t, claim m t) ≡ look_below m (suc t)
  walk_late t (inl k) c = sym (look_late m t k c)
  walk_late t (inr a) c = absurd (omega arith)

  walk_step : (n t : ℕ) → t ≤ n → Enough n → Stands m t → (b : Bool) → ltb t (claim m t) ≡ b
      → elim b [ true ↦ Some (t, claim m t) | false ↦ walk_down m n (step m t) ] ≡ look_below m (suc t)
  unfolding step
  walk_step n t h ih k true e = walk_late t k (ltb-true t (claim m t) e)
  walk_step n t h ih k false e = walk_lower n t h ih (ltb-false t (claim m t) e) (ltb (claim m t) t) refl

  walk_enough : (n : ℕ) → Enough n
  unfolding walk_down Enough
  walk_enough zero s h k = absurd (omega arith)
  walk_enough (suc n) s h k = walk_step n s (omega arith) (walk_enough n) k (ltb s (claim m s)) refl

  walk_over : (o : Option ℕ) → over o (λ w. walk_down m w (last_mark m.mark w)) ≡ over o (λ w. look_below m w)
  walk_over None = refl
  walk_over (Some w) = ap (found w) (walk_last w w (omega arith) (walk_enough w))

pub walk_is_look : WalkIsLook
unfolding walk look
walk_is_look m l = walk_over m l (busy m)
