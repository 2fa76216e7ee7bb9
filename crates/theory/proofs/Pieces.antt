-- Where in its pieces a job stands after n ticks.
use Rattle.std.proofs.Common.{◌≡◌, ℕ, ◌+◌, ◌-◌, ◌<◌, ◌≤◌, true, false, cond, ltb, ◌⊎◌, List, [], ◌∷◌, sym, refl, ap, ◌∙◌, inl, inr, arith}
use Rattle.std.proofs.lemmas.Bool.{cases_lt, lt-ltb, le-ltb, ltb-true, both_ways}
use Rattle.theory.specs.Jobs.{sum, Among}
use Rattle.theory.specs.Dispatch.{inside}

-- how many ticks of the piece that is begun have passed
pub spent : List ℕ → ℕ → ℕ
spent [] n = 0
spent (p ∷ ps) n = cond (ltb n p) n (spent ps (n - p))

in_first : (p : ℕ) (ps : List ℕ) (n : ℕ) → n < p → inside (p ∷ ps) n ≡ ltb 0 n
in_first p ps n h = rw (lt-ltb n p h)

in_rest : (p : ℕ) (ps : List ℕ) (n : ℕ) → p ≤ n → inside (p ∷ ps) n ≡ inside ps (n - p)
in_rest p ps n h = rw (le-ltb n p h)

spent_first : (p : ℕ) (ps : List ℕ) (n : ℕ) → n < p → spent (p ∷ ps) n ≡ n
unfolding spent
spent_first p ps n h = rw (lt-ltb n p h)

spent_rest : (p : ℕ) (ps : List ℕ) (n : ℕ) → p ≤ n → spent (p ∷ ps) n ≡ spent ps (n - p)
unfolding spent
spent_rest p ps n h = rw (le-ltb n p h)

pub inside_zero : (ps : List ℕ) → inside ps 0 ≡ false
inside_zero [] = refl
inside_zero (p ∷ ps) = go (cases_lt 0 p) (inside_zero ps)
  where
    go : (0 < p) ⊎ (p ≤ 0) → inside ps 0 ≡ false → inside (p ∷ ps) 0 ≡ false
    go (inl h) ih = in_first p ps 0 h
    go (inr h) ih =
        let q : 0 - p ≡ 0 = omega arith in
        in_rest p ps 0 h ∙ ap (inside ps) q ∙ ih

pub inside_work : (ps : List ℕ) (n : ℕ) → inside ps n ≡ true → n < sum ps
inside_work [] n e = absurd (both_ways (inside [] n) refl e)
inside_work (p ∷ ps) n e = go (cases_lt n p) (inside_work ps (n - p))
  where
    go : (n < p) ⊎ (p ≤ n) → (inside ps (n - p) ≡ true → n - p < sum ps) → n < sum (p ∷ ps)
    go (inl h) ih = omega arith
    go (inr h) ih = let k = ih (sym (in_rest p ps n h) ∙ e) in omega arith

-- the piece that is begun is one of the pieces, and not ended
pub inside_piece : (ps : List ℕ) (n : ℕ) → inside ps n ≡ true → (z : ℕ) × Among z ps × (1 ≤ spent ps n) × (spent ps n < z)
inside_piece [] n e = absurd (both_ways (inside [] n) refl e)
inside_piece (p ∷ ps) n e = go (cases_lt n p) (inside_piece ps (n - p))
  where
    go : (n < p) ⊎ (p ≤ n) → (inside ps (n - p) ≡ true → (z : ℕ) × Among z ps × (1 ≤ spent ps (n - p)) × (spent ps (n - p) < z))
        → (z : ℕ) × Among z (p ∷ ps) × (1 ≤ spent (p ∷ ps) n) × (spent (p ∷ ps) n < z)
    go (inl h) ih =
        let q = spent_first p ps n h in
        let b : 0 < n = ltb-true 0 n (sym (in_first p ps n h) ∙ e) in
        (p, inl refl, omega arith, omega arith)
    go (inr h) ih =
        let q = spent_rest p ps n h in
        let r = ih (sym (in_rest p ps n h) ∙ e) in
        (r.0, inr r.1, omega arith, omega arith)

-- one tick more of a piece that is still not ended
pub spent_more : (ps : List ℕ) (n : ℕ) → inside ps n ≡ true → inside ps (n + 1) ≡ true → spent ps (n + 1) ≡ spent ps n + 1
spent_more [] n e f = absurd (both_ways (inside [] n) refl e)
spent_more (p ∷ ps) n e f = go (cases_lt n p) (cases_lt (n + 1) p) (spent_more ps (n - p))
  where
    go : (n < p) ⊎ (p ≤ n) → (n + 1 < p) ⊎ (p ≤ n + 1)
        → (inside ps (n - p) ≡ true → inside ps (n - p + 1) ≡ true → spent ps (n - p + 1) ≡ spent ps (n - p) + 1)
        → spent (p ∷ ps) (n + 1) ≡ spent (p ∷ ps) n + 1
    go (inl h) (inl k) ih = let q = spent_first p ps n h in let r = spent_first p ps (n + 1) k in omega arith
    go (inl h) (inr k) ih =
        let q : n + 1 - p ≡ 0 = omega arith in
        let z : inside (p ∷ ps) (n + 1) ≡ false = in_rest p ps (n + 1) k ∙ ap (inside ps) q ∙ inside_zero ps in
        absurd (both_ways (inside (p ∷ ps) (n + 1)) z f)
    go (inr h) (inl k) ih = omega arith
    go (inr h) (inr k) ih =
        let q : n + 1 - p ≡ n - p + 1 = omega arith in
        let i = ih (sym (in_rest p ps n h) ∙ e) (ap (inside ps) (sym q) ∙ sym (in_rest p ps (n + 1) k) ∙ f) in
        let a = spent_rest p ps n h in
        let b = spent_rest p ps (n + 1) k ∙ ap (spent ps) q in
        omega arith
