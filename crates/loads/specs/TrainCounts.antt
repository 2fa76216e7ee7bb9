-- How many of a, a + c, a + 2 * c, .. are at most t.
use Rattle.std.specs.Prelude.{◌≡◌, ℕ, suc, ◌+◌, ◌-◌, ◌/◌, ◌%◌, ◌<◌, ◌≤◌, false, cond, ◌⊎◌, ◌==◌, ◌≢◌, nat_le}
use Rattle.std.proofs.Common.{sym, ap, ◌∙◌, inl, inr, arith}
use Rattle.std.proofs.Math.Nat.{div-eq_of_lt, div-eq-sub-div, add-div_right, zero-mod}
use Rattle.std.proofs.lemmas.Bool.{cases_lt, le-leb, lt-leb, lt-ltb, le-ltb, both_ways, cases_eq, eq-eqb, and_from}
use Rattle.loads.specs.Train.{upto, below, hits}
use Rattle.loads.specs.Quotients.{div_mono, div_still}

pub upto_some : (c t a : ℕ) → a ≤ t → upto c t a ≡ 1 + (t - a) / c
upto_some c t a h = rw (le-leb a t h)

pub upto_none : (c t a : ℕ) → t < a → upto c t a ≡ 0
upto_none c t a h = rw (lt-leb a t h)

-- the first of them, and the others
pub upto_step : (c t a : ℕ) → 0 < c → upto c t a ≡ cond (nat_le a t) 1 0 + upto c t (a + c)
upto_step c t a p = go (cases_lt t a) (cases_lt t (a + c))
  where
    go : (t < a) ⊎ (a ≤ t) → (t < a + c) ⊎ (a + c ≤ t) → upto c t a ≡ cond (nat_le a t) 1 0 + upto c t (a + c)
    go (inl h) k = let q = upto_none c t (a + c) (omega arith) in rw (lt-leb a t h) (omega arith)
    go (inr h) (inl k) =
        let q = upto_none c t (a + c) k in
        let d : (t - a) / c ≡ 0 = div-eq_of_lt (omega arith) in
        rw (le-leb a t h) (omega arith)
    go (inr h) (inr k) =
        let q = upto_some c t (a + c) k in
        let e : t - a - c ≡ t - (a + c) = omega arith in
        let d : (t - a) / c ≡ (t - a - c) / c + 1 = div-eq-sub-div p (omega arith) in
        let d' : (t - a) / c ≡ (t - (a + c)) / c + 1 = d ∙ ap (λ x. x / c + 1) e in
        rw (le-leb a t h) (omega arith)

-- an earlier first one, or a later end: no fewer
pub upto_mono : (c s a t b : ℕ) → 0 < c → s + b ≤ t + a → b ≤ a → upto c s a ≤ upto c t b
upto_mono c s a t b p h l = go (cases_lt s a)
  where
    go : (s < a) ⊎ (a ≤ s) → upto c s a ≤ upto c t b
    go (inl k) = let q = upto_none c s a k in omega arith
    go (inr k) =
        let q = upto_some c s a k in
        let r = upto_some c t b (omega arith) in
        let d = div_mono c (s - a) (t - b) p (omega arith) in
        omega arith

pub below_zero : (c a : ℕ) → below c 0 a ≡ 0
below_zero c a = rw (le-ltb a 0 (omega arith))

-- below s + 1 is up to s
pub below_upto : (c s a : ℕ) → 0 < c → below c (suc s) a ≡ upto c s a
below_upto c s a p = go (cases_lt s a)
  where
    go : (s < a) ⊎ (a ≤ s) → below c (suc s) a ≡ upto c s a
    go (inl h) = let q = upto_none c s a h in rw (le-ltb a (suc s) h) (sym q)
    go (inr h) =
        let q = upto_some c s a h in
        let e : suc s - a + (c - 1) ≡ s - a + c = omega arith in
        let d = ap (λ x. x / c) e ∙ add-div_right (s - a) p in
        rw (lt-ltb a (suc s) (omega arith)) (d ∙ (omega arith))

missed : (c t a : ℕ) → hits c t a ≡ false → a ≤ t → (t - a) % c ≢ 0
missed c t a m h e = both_ways (hits c t a) m (and_from (nat_le a t) ((t - a) % c == 0) (le-leb a t h) (eq-eqb ((t - a) % c) 0 e))

-- one more tick that is none of them adds none
pub upto_still : (c t a : ℕ) → 0 < c → hits c (t + 1) a ≡ false → upto c (t + 1) a ≡ upto c t a
upto_still c t a p m = go (cases_lt t a)
  where
    at : t < a → ((t + 1) ≡ a) ⊎ ((t + 1) ≢ a) → upto c (t + 1) a ≡ upto c t a
    at h (inl e) =
        let z : t + 1 - a ≡ 0 = omega arith in
        absurd (missed c (t + 1) a m (omega arith) (ap (λ x. x % c) z ∙ zero-mod c))
    at h (inr d) = let q = upto_none c t a h in let r = upto_none c (t + 1) a (omega arith) in omega arith

    go : (t < a) ⊎ (a ≤ t) → upto c (t + 1) a ≡ upto c t a
    go (inl h) = at h (cases_eq (t + 1) a)
    go (inr h) =
        let e : t + 1 - a ≡ t - a + 1 = omega arith in
        let s = div_still c (t - a) p (λ z. missed c (t + 1) a m (omega arith) (ap (λ x. x % c) e ∙ z)) in
        let s' = ap (λ x. x / c) e ∙ s in
        let q = upto_some c t a h in
        let r = upto_some c (t + 1) a (omega arith) in
        omega arith
