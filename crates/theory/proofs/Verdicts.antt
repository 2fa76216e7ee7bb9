-- What the verdicts say: yes, late, and that the two are one.
use Rattle.std.proofs.Common.{◌≡◌, ℕ, zero, suc, ◌+◌, ◌-◌, ◌<◌, ◌≤◌, Bool, true, false, eqb, ltb, Some, None, Ok, Err, Option, sym, refl, ap, ◌∙◌, subst, inl, inr, add-one, one-add, arith}
use Rattle.std.proofs.lemmas.Bool.{ltb-true, ltb-false, eqb-true, eqb-false, and_parts, cases_Bool, cases_lt, cases_eq, true≢false}
use Rattle.theory.specs.declared.verdict.Unfit.TheVariants.{NotClosed, Late}
use Rattle.theory.specs.Meaning.{Amounts, Rules, claim, last_mark}
use Rattle.theory.specs.Verdict.{busy, exceeded, walk_down, look_below, found, over, walk, look, Accepted}
use Rattle.theory.specs.Statements.{YesExactly, Worst, LateExactly, OneVerdict}
use Rattle.theory.proofs.BusyPeriod.{Closed, closed, closes_exactly}
use Rattle.theory.proofs.Claims.{claim_cases}
use Rattle.theory.proofs.Look.{look_hit, look_miss, look_skip, look_late, exceeds, no_mark, no_claim}
use Rattle.theory.proofs.Walk.{walk_is_look}

-- No exceeded mark below w.
look_none_step : (m : Amounts) (w : ℕ) → look_below m (suc w) ≡ None → (t : ℕ) → t < suc w
    → (look_below m w ≡ None → t < w → exceeded m t ≡ false) → (b : Bool) → exceeded m w ≡ b → exceeded m t ≡ false
look_none_step m w e t h ih true x = let z : ◌≡◌ {A = ℕ} 0 1 = cc (look_hit m w x) in absurd (omega arith)
look_none_step m w e t h ih false x = elim (cases_Bool (eqb t w)) [
  | inl y ↦ (ap (exceeded m) (eqb-true t w y) ∙ x)
  | inr n ↦ (let d : t ≡ w → ⊥ = eqb-false t w n in ih (sym (look_miss m w x) ∙ e) (omega arith))
]

look_none : (m : Amounts) (w : ℕ) → look_below m w ≡ None → (t : ℕ) → t < w → exceeded m t ≡ false
look_none m zero e t h = absurd (omega arith)
look_none m (suc w) e t h = look_none_step m w e t h (λ e' h'. look_none m w e' t h') (exceeded m w) refl

none_look : (m : Amounts) (w : ℕ) → ((t : ℕ) → t < w → exceeded m t ≡ false) → look_below m w ≡ None
unfolding look_below
none_look m w still = look_skip m 0 w (omega arith) (λ u a b. still u b)

not_exceeded : (m : Amounts) (t : ℕ) → exceeded m t ≡ false → m.mark t ≡ true → claim m t ≤ t
not_exceeded m t x k = elim (cases_Bool (ltb t (claim m t))) [
  | inl y ↦ (let z : ◌≡◌ {A = Bool} true false = sym (exceeds m t k (ltb-true t (claim m t) y)) ∙ x in absurd (true≢false z))
  | inr n ↦ ltb-false t (claim m t) n
]

module _ (m : Amounts) (l : Rules m) where
  claim_still : (t : ℕ) → m.mark (suc t) ≡ false → claim m (suc t) ≡ claim m t
  claim_still t k =
      let d : m.due (suc t) ≡ m.due t = rw add-one at (l.due_still t (rw add-one k)) in
      let h : m.held (suc t) ≡ m.held t = rw add-one at (l.held_still t (rw add-one k)) in
      omega (arith, claim_cases m t, claim_cases m (suc t))

  claim_start : claim m 0 ≤ 0
  claim_start = omega (arith, claim_cases m 0, l.due_zero)

  -- Between marks the claim stands still, so a tick below w is exceeded only behind an exceeded mark.
  within_below : (w : ℕ) → ((t : ℕ) → t < w → exceeded m t ≡ false) → (t : ℕ) → t < w → claim m t ≤ t
  within_below w still zero h = claim_start
  within_below w still (suc t) h =
      let before : claim m t ≤ t = within_below w still t (omega arith) in
      elim (cases_Bool (m.mark (suc t))) [
        | inl y ↦ not_exceeded m (suc t) (still (suc t) h) y
        | inr n ↦ omega (arith, claim_still t n)
      ]

  due_idle : m.ready 1 ≡ 0 → (t : ℕ) → m.due t ≡ 0
  due_idle r zero = l.due_zero
  due_idle r (suc t) = let s : m.due (suc t) + m.held (suc t) ≤ m.ready 1 + m.due t = rw one-add at (l.shift 1 t (omega arith)) in omega (arith, due_idle r t)

  within_idle : m.ready 1 ≡ 0 → (t : ℕ) → claim m t ≤ t
  within_idle r t = omega (arith, due_idle r t, claim_cases m t)

  -- Past the busy period, a whole one can be taken off.
  claim_past : (w : ℕ) → m.ready w ≡ w → 1 ≤ w → (t : ℕ) → w ≤ t → claim m (t - w) ≤ t - w → claim m t ≤ t
  claim_past w f a t b before =
      let q : w + (t - w) ≡ t = omega arith in
      let s : m.due t + m.held t ≤ m.ready w + m.due (t - w) = subst (λ x. m.due x + m.held x ≤ m.ready w + m.due (t - w)) q (l.shift w (t - w) a) in
      omega (arith, claim_cases m t, claim_cases m (t - w))

  within_all : (w : ℕ) → m.ready w ≡ w → 1 ≤ w → ((t : ℕ) → t < w → claim m t ≤ t) → (n t : ℕ) → t < n → claim m t ≤ t
  within_all w f a below zero t h = absurd (omega arith)
  within_all w f a below (suc n) t h = elim (cases_lt t w) [
    | inl y ↦ below t y
    | inr y ↦ claim_past w f a t y (within_all w f a below n (t - w) (omega arith))
  ]

  within : (w : ℕ) → Closed m w → ((t : ℕ) → t < w → claim m t ≤ t) → (t : ℕ) → claim m t ≤ t
  within w c below t = elim (cases_eq w 0) [
    | inl y ↦ within_idle (c.idle y) t
    | inr y ↦ within_all w c.fixed (omega arith) below (suc t) t (omega arith)
  ]

pub look_at : (m : Amounts) (w : ℕ) → busy m ≡ Some w → look m ≡ found w (look_below m w)
unfolding look
look_at m w e = ap (λ o. over o (λ w. look_below m w)) e

found_none : (w : ℕ) (o : Option (ℕ × ℕ)) → found w o ≡ Ok w → o ≡ None
found_none w None e = refl
found_none w (Some p) e = cc

pub yes_exactly : YesExactly
yes_exactly m l w b = (
  λ y. within m l w (closed m l w b) (within_below m l w (look_none m w (found_none w (look_below m w) (sym (look_at m w b) ∙ (sym (walk_is_look m l) ∙ y))))),
  λ all. walk_is_look m l ∙ (look_at m w b ∙ ap (found w) (none_look m w (λ t _. no_claim m t (all t)))),
)

-- Late exactly.

module _ (m : Amounts) where
  quiet : (t : ℕ) → (m.mark t ≡ true → claim m t ≤ t) → exceeded m t ≡ false
  quiet t f = elim (cases_Bool (m.mark t)) [ inl y ↦ no_claim m t (f y) | inr n ↦ no_mark m t n ]

  exceeded_parts : (t : ℕ) → exceeded m t ≡ true → (m.mark t ≡ true) × (t < claim m t)
  unfolding exceeded
  exceeded_parts t e = let p = and_parts (m.mark t) (ltb t (claim m t)) e in (p.0, ltb-true t (claim m t) p.1)

  worst_look : (w t c : ℕ) → Worst m w t c → look_below m w ≡ Some (t, c)
  worst_look w t c f =
      look_skip m (suc t) w f.below (λ u a b. quiet u (f.greatest u a b))
      ∙ (look_late m t f.mark (omega (arith, f.is_claim, f.exceeds)) ∙ ap (λ x. Some (t, x)) (sym f.is_claim))

  look_worst_step : (w t c : ℕ) → (b : Bool) → exceeded m w ≡ b → look_below m (suc w) ≡ Some (t, c) → (look_below m w ≡ Some (t, c) → Worst m w t c) → Worst m (suc w) t c
  look_worst_step w t c true x e ih =
      let q : ◌≡◌ {A = Option (ℕ × ℕ)} (Some (w, claim m w)) (Some (t, c)) = sym (look_hit m w x) ∙ e in
      let both : ◌≡◌ {A = ℕ × ℕ} (w, claim m w) (t, c) = cc in
      let a : w ≡ t = ap (λ (x : ℕ × ℕ). x.0) both in
      let d : claim m w ≡ c = ap (λ (x : ℕ × ℕ). x.1) both in
      let p = exceeded_parts w x in
      record {
        below = omega arith;
        mark = ap m.mark (sym a) ∙ p.0;
        is_claim = sym d ∙ ap (claim m) a;
        exceeds = omega arith;
        greatest = λ u h k. absurd (omega arith);
      }
  look_worst_step w t c false x e ih =
      let f : Worst m w t c = ih (sym (look_miss m w x) ∙ e) in
      record {
        below = omega arith;
        mark = f.mark;
        is_claim = f.is_claim;
        exceeds = f.exceeds;
        greatest = λ u h k y. elim (cases_eq u w) [
          | inl q ↦ not_exceeded m u (ap (exceeded m) q ∙ x) y
          | inr n ↦ f.greatest u h (omega arith) y
        ];
      }

  look_worst : (w t c : ℕ) → look_below m w ≡ Some (t, c) → Worst m w t c
  unfolding look_below
  look_worst zero t c e = let z : ◌≡◌ {A = ℕ} 0 1 = cc in absurd (omega arith)
  look_worst (suc w) t c e = look_worst_step w t c (exceeded m w) refl e (look_worst w t c)

found_late : (w t c : ℕ) (o : Option (ℕ × ℕ)) → found w o ≡ Err (Late (t, c)) → o ≡ Some (t, c)
found_late w t c None e = cc
found_late w t c (Some p) e = cc

pub late_exactly : LateExactly
late_exactly m l w b t c = (
  λ y. look_worst m w t c (found_late w t c (look_below m w) (sym (look_at m w b) ∙ (sym (walk_is_look m l) ∙ y))),
  λ f. walk_is_look m l ∙ (look_at m w b ∙ ap (found w) (worst_look m w t c f)),
)

pub verdicts : OneVerdict
verdicts = record { same = walk_is_look; yes = yes_exactly; late = late_exactly; closes = closes_exactly }

-- Where the busy period does not close, both verdicts say so.
pub look_open : (m : Amounts) → None ≡ busy m → Err NotClosed ≡ look m
unfolding look
look_open m e = ap (λ o. over o (λ w. look_below m w)) e

pub walk_open : (m : Amounts) → None ≡ busy m → Err NotClosed ≡ walk m
unfolding walk
walk_open m e = ap (λ o. over o (λ w. walk_down m w (last_mark m.mark w))) e

-- A load that the walk says yes to is accepted.

found_ok : (w v : ℕ) (o : Option (ℕ × ℕ)) → found w o ≡ Ok v → found w o ≡ Ok w
found_ok w v None e = refl
found_ok w v (Some p) e = cc

pub accepted_ok : (m : Amounts) → Rules m → (v : ℕ) → Ok v ≡ walk m → Accepted m
accepted_ok m l v e = at (busy m) refl
  where
    at : (o : Option ℕ) → busy m ≡ o → Accepted m
    at None b = let n = walk_open m (sym b) in let z : ◌≡◌ {A = ℕ} 0 1 = cc in absurd (omega arith)
    at (Some w) b =
        let q = walk_is_look m l ∙ look_at m w b in
        ((w, b), (yes_exactly m l w b).0 (q ∙ found_ok w v (look_below m w) (sym q ∙ sym e)))

-- An accepted load gets a yes.
pub accepted_yes : (m : Amounts) → Rules m → Accepted m → (w : ℕ) × (look m ≡ Ok w)
accepted_yes m l a = (a.0.0, sym (walk_is_look m l) ∙ (yes_exactly m l a.0.0 a.0.1).1 a.1)
