-- The last mark below a tick: what it is, and that of either of two loads.
use Rattle.std.proofs.Common.{◌≡◌, ℕ, zero, suc, ◌<◌, max, Bool, true, false, ◌||◌, Some, None, Option, refl, ap, ◌∙◌, inl, inr, arith}
use Rattle.std.proofs.lemmas.Bool.{both_ways, cases_eq, cases_order, or_from, or_left, or_right}
use Rattle.theory.specs.Meaning.{last_mark, later}

-- What the last mark below t is.
abbrev pub Last : (ℕ → Bool) → ℕ → Option ℕ → Type 0
Last k t None = (u : ℕ) → u < t → k u ≡ false
Last k t (Some s) = (s < t) × (k s ≡ true) × ((u : ℕ) → s < u → u < t → k u ≡ false)

last_more : (k : ℕ → Bool) (t : ℕ) → k t ≡ false → (o : Option ℕ) → Last k t o → Last k (suc t) o
last_more k t e None h = λ u l. elim (cases_eq u t) [ inl q ↦ (ap k q ∙ e) | inr d ↦ h u (omega arith) ]
last_more k t e (Some s) h = (omega arith, h.1, λ u a l. elim (cases_eq u t) [ inl q ↦ (ap k q ∙ e) | inr d ↦ h.2 u a (omega arith) ])

last_step : (k : ℕ → Bool) (t : ℕ) (b : Bool) → k t ≡ b → Last k t (last_mark k t) → Last k (suc t) (elim b [ true ↦ Some t | false ↦ last_mark k t ])
last_step k t true e h = (omega arith, e, λ u a l. absurd (omega arith))
last_step k t false e h = last_more k t e (last_mark k t) h

pub last_says : (k : ℕ → Bool) (t : ℕ) → Last k t (last_mark k t)
unfolding last_mark
last_says k zero = λ u l. absurd (omega arith)
last_says k (suc t) = last_step k t (k t) refl (last_says k t)

-- There is but one.
last_one : (k : ℕ → Bool) (t : ℕ) (a b : Option ℕ) → Last k t a → Last k t b → a ≡ b
last_one k t None None h i = refl
last_one k t None (Some s) h i = absurd (both_ways (k s) (h s i.0) i.1)
last_one k t (Some s) None h i = absurd (both_ways (k s) (i s h.0) h.1)
last_one k t (Some r) (Some s) h i = elim (cases_order r s) [
  | inl e ↦ ap Some e
  | inr o ↦ elim o [
    | inl l ↦ absurd (both_ways (k s) (h.2 s l i.0) i.1)
    | inr g ↦ absurd (both_ways (k r) (i.2 r g h.0) h.1)
  ]
]

pub last_is : (k : ℕ → Bool) (t : ℕ) (o : Option ℕ) → Last k t o → last_mark k t ≡ o
last_is k t o h = last_one k t (last_mark k t) o (last_says k t) h

-- of either of two
last_or : (f g : ℕ → Bool) (t : ℕ) (a b : Option ℕ) → Last f t a → Last g t b → Last (λ u. f u || g u) t (later a b)
last_or f g t None None h i = λ u l. or_from (f u) (g u) (h u l) (i u l)
last_or f g t None (Some s) h i = (i.0, or_right (f s) (g s) i.1, λ u a l. or_from (f u) (g u) (h u l) (i.2 u a l))
last_or f g t (Some r) None h i = (h.0, or_left (f r) (g r) h.1, λ u a l. or_from (f u) (g u) (h.2 u a l) (i u l))
last_or f g t (Some r) (Some s) h i = (
  omega arith,
  elim (cases_order r s) [
    | inl e ↦ (let q : max r s ≡ r = omega arith in rw q (or_left (f r) (g r) h.1))
    | inr o ↦ elim o [
      | inl l ↦ (let q : max r s ≡ s = omega arith in rw q (or_right (f s) (g s) i.1))
      | inr l ↦ (let q : max r s ≡ r = omega arith in rw q (or_left (f r) (g r) h.1))
    ]
  ],
  λ u a l. or_from (f u) (g u) (h.2 u (omega arith) l) (i.2 u (omega arith) l),
)

pub last_either : (f g : ℕ → Bool) (t : ℕ) → last_mark (λ u. f u || g u) t ≡ later (last_mark f t) (last_mark g t)
last_either f g t = last_is (λ u. f u || g u) t (later (last_mark f t) (last_mark g t)) (last_or f g t (last_mark f t) (last_mark g t) (last_says f t) (last_says g t))

pub last_none : (t : ℕ) → last_mark (λ u. false) t ≡ None
last_none t = last_is (λ u. false) t None (λ u l. refl)

pub later_none : (a : Option ℕ) → later a None ≡ a
later_none None = refl
later_none (Some a) = refl

pub later_assoc : (a b c : Option ℕ) → later a (later b c) ≡ later (later a b) c
later_assoc None b c = refl
later_assoc (Some a) None c = refl
later_assoc (Some a) (Some b) None = refl
later_assoc (Some a) (Some b) (Some c) = ap Some (omega arith)
