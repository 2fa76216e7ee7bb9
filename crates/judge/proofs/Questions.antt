-- What the answers to the questions say of claims and marks.
use Rattle.std.proofs.Common.{◌≡◌, ℕ, suc, ◌+◌, ◌^◌, ◌<◌, ◌≤◌, min, Bool, false, eqb, Some, None, Option, sym, ap, ◌∙◌, subst, inl, inr, add-zero, arith}
use Rattle.std.specs.Option.{option_eq}
use Rattle.std.proofs.lemmas.Bool.{eq-eqb, ne_eqb, cases_eq}
use Rattle.theory.specs.Meaning.{Amounts, Rules, claim, answered, last_mark}
use Rattle.theory.proofs.LastMark.{Last, last_says}
use Rattle.theory.proofs.Claims.{claim_cases}

pub answered_at : (f : ℕ → ℕ) (t : ℕ) → t ≤ 100000000 → answered f t ≡ min (f t) (2 ^ 40)
answered_at f t h = ap (λ x. min (f x) (2 ^ 40)) (let e : min t 100000000 ≡ t = omega arith in e)

-- The claim from the answers d and h to due and held: nothing where d is 0, and else their sum, where none is cut.
pub claim_nothing : (m : Amounts) (t d : ℕ) → t ≤ 100000000 → d ≡ answered m.due t → d ≡ 0 → 0 ≡ claim m t
claim_nothing m t d h e z = omega (arith, answered_at m.due t h, claim_cases m t)

pub claim_something : (m : Amounts) → Rules m → (t d h : ℕ) → t ≤ 100000000 → m.ready t ≤ 2 ^ 40 → d ≡ answered m.due t → h ≡ answered m.held t → (d ≡ 0 → ⊥) → d + h ≡ claim m t
claim_something m l t d h a b e f n =
    let p : d ≡ min (m.due t) (2 ^ 40) = e ∙ answered_at m.due t a in
    let q : h ≡ min (m.held t) (2 ^ 40) = f ∙ answered_at m.held t a in
    elim (cases_eq t 0) [
      | inl y ↦ (let z : m.due t ≡ 0 = ap m.due y ∙ l.due_zero in absurd (omega arith))
      | inr y ↦
          (let s : m.due t + m.held t ≤ m.ready t + m.due 0 = rw add-zero at (l.shift t 0 (omega arith)) in
          omega (arith, l.due_zero, claim_cases m t))
    ]

-- The last mark up to t, as the question below t + 1 answers it.
upto : (k : ℕ → Bool) (t : ℕ) (o : Option ℕ) → t < 100000000 → o ≡ last_mark k (min (t + 1) 100000000) → Last k (suc t) o
upto k t o h e =
    let n : min (t + 1) 100000000 ≡ suc t = omega arith in
    let q : o ≡ last_mark k (suc t) = e ∙ ap (last_mark k) n in
    subst (λ x. Last k (suc t) x) (sym q) (last_says k (suc t))

pub mark_found : (k : ℕ → Bool) (t s : ℕ) → t < 100000000 → Some s ≡ last_mark k (min (t + 1) 100000000) → eqb s t ≡ k t
mark_found k t s h e =
    let says : Last k (suc t) (Some s) = upto k t (Some s) h e in
    elim (cases_eq s t) [
      | inl y ↦ (eq-eqb s t y ∙ (sym says.1 ∙ ap k y))
      | inr y ↦ (ne_eqb s t y ∙ sym (says.2 t (omega arith) (omega arith)))
    ]

pub mark_absent : (k : ℕ → Bool) (t : ℕ) → t < 100000000 → None ≡ last_mark k (min (t + 1) 100000000) → false ≡ k t
mark_absent k t h e = let says : Last k (suc t) None = upto k t None h e in sym (says t (omega arith))

-- A tick is a mark exactly where the last mark below the next tick is that tick.
pub mark_is_last : (k : ℕ → Bool) (t : ℕ) (o : Option ℕ) → t < 100000000 → o ≡ last_mark k (min (t + 1) 100000000) → option_eq eqb o (Some t) ≡ k t
mark_is_last k t None h e = mark_absent k t h e
mark_is_last k t (Some s) h e = mark_found k t s h e
