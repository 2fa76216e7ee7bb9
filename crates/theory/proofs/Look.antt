-- The look at every tick, step by step.
use Rattle.std.proofs.Common.{◌≡◌, ℕ, zero, suc, ◌<◌, ◌≤◌, true, false, eqb, ltb, Some, None, Option, sym, ap, ◌∙◌, inl, inr, arith}
use Rattle.std.proofs.lemmas.Bool.{eqb-true, eqb-false, lt-ltb, le-ltb, and_left, and_right, and_from, cases_Bool}
use Rattle.theory.specs.Meaning.{Amounts, Rules, claim, last_mark}
use Rattle.theory.specs.Verdict.{exceeded, look_below}
use Rattle.theory.proofs.LastMark.{Last, last_says}
use Rattle.theory.proofs.Claims.{claim_mono}

pub look_hit : (m : Amounts) (t : ℕ) → exceeded m t ≡ true → look_below m (suc t) ≡ Some (t, claim m t)
unfolding look_below
look_hit m t e = rw (e, look_below)

pub look_miss : (m : Amounts) (t : ℕ) → exceeded m t ≡ false → look_below m (suc t) ≡ look_below m t
unfolding look_below
look_miss m t e = rw (e, look_below)

pub exceeds : (m : Amounts) (t : ℕ) → m.mark t ≡ true → t < claim m t → exceeded m t ≡ true
unfolding exceeded
exceeds m t k h = and_from (m.mark t) (ltb t (claim m t)) k (lt-ltb t (claim m t) h)

pub no_mark : (m : Amounts) (t : ℕ) → m.mark t ≡ false → exceeded m t ≡ false
unfolding exceeded
no_mark m t k = and_left (m.mark t) (ltb t (claim m t)) k

pub no_claim : (m : Amounts) (t : ℕ) → claim m t ≤ t → exceeded m t ≡ false
unfolding exceeded
no_claim m t h = and_right (m.mark t) (ltb t (claim m t)) (le-ltb t (claim m t) h)

pub look_skip : (m : Amounts) (s t : ℕ) → s ≤ t → ((u : ℕ) → s ≤ u → u < t → exceeded m u ≡ false) → look_below m t ≡ look_below m s
look_skip m s zero h still = ap (look_below m) (omega arith)
look_skip m s (suc t) h still = elim (cases_Bool (eqb s (suc t))) [
  | inl y ↦ ap (look_below m) (sym (eqb-true s (suc t) y))
  | inr n ↦
      (let d : s ≡ suc t → ⊥ = eqb-false s (suc t) n in
      look_miss m t (still t (omega arith) (omega arith)) ∙ look_skip m s t (omega arith) (λ u a b. still u a (omega arith)))
]

-- What the look finds at s and below; nothing where there is no s.
abbrev pub onward : Amounts → Option ℕ → Option (ℕ × ℕ)
onward m None = None
onward m (Some s) = look_below m (suc s)

pub onward_last : (m : Amounts) (t : ℕ) (o : Option ℕ) → Last m.mark t o → look_below m t ≡ onward m o
unfolding look_below
onward_last m t None h = look_skip m 0 t (omega arith) (λ u a b. no_mark m u (h u b))
onward_last m t (Some s) h = look_skip m (suc s) t h.0 (λ u a b. no_mark m u (h.2 u a b))

pub look_last : (m : Amounts) (t : ℕ) → look_below m t ≡ onward m (last_mark m.mark t)
look_last m t = onward_last m t (last_mark m.mark t) (last_says m.mark t)

-- The ways of a step: t is an exceeded mark, its claim does not exceed it, it is no mark, or its claim is below it.
pub look_late : (m : Amounts) (t : ℕ) → m.mark t ≡ true → t < claim m t → look_below m (suc t) ≡ Some (t, claim m t)
look_late m t k h = look_hit m t (exceeds m t k h)

pub look_still : (m : Amounts) (t : ℕ) → claim m t ≤ t → look_below m (suc t) ≡ look_below m t
look_still m t h = look_miss m t (no_claim m t h)

pub look_quiet : (m : Amounts) (t : ℕ) → m.mark t ≡ false → look_below m (suc t) ≡ look_below m t
look_quiet m t k = look_miss m t (no_mark m t k)

pub look_jump : (m : Amounts) → Rules m → (t : ℕ) → claim m t < t → look_below m (suc t) ≡ look_below m (suc (claim m t))
look_jump m l t h = look_skip m (suc (claim m t)) (suc t) (omega arith) (λ u a b. no_claim m u (omega (arith, claim_mono m l u t (omega arith))))
