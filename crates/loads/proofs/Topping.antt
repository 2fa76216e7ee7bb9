-- The largest of several that grow in steps: a number raised at one place, and the largest up to each place.
use Rattle.std.proofs.Common.{◌≡◌, ℕ, zero, suc, ◌+◌, ◌<◌, ◌≤◌, max, List, [], ◌∷◌, length, get_or, set, take, ap, ◌∙◌, refl, arith, replicate, sym, ◌⊎◌, inl, inr, length-take, take_all}
use Rattle.std.specs.List.{sum_by}
use Rattle.std.proofs.lemmas.List.Sums.{sum_by_more}
use Rattle.std.proofs.lemmas.Bool.{cases_lt}
use Rattle.loads.specs.Steps.{reached, topped}
use Rattle.loads.proofs.Stepping.{reached_sum}

pub topped_zeros : (n i : ℕ) → topped (replicate n 0) i ≡ 0
unfolding topped
topped_zeros zero i = refl
topped_zeros (suc n) zero = refl
topped_zeros (suc n) (suc i) = omega (arith, topped_zeros n i)

-- with another number at place j
pub topped_before : (xs : List ℕ) (j v i : ℕ) → i < j → topped (set xs j v) i ≡ topped xs i
unfolding topped
topped_before [] j v i h = refl
topped_before (x ∷ xs) zero v i h = absurd (omega arith)
topped_before (x ∷ xs) (suc j) v zero h = refl
topped_before (x ∷ xs) (suc j) v (suc i) h = ap (max x) (topped_before xs j v i (omega arith))

-- with the number at place j raised to v
pub topped_after : (xs : List ℕ) (j v w i : ℕ) → j < length xs → j ≤ i → w ≡ max (get_or xs j 0) v → topped (set xs j w) i ≡ max (topped xs i) v
unfolding topped
topped_after [] j v w i h l e = absurd (omega arith)
topped_after (x ∷ xs) zero v w zero h l e = e
topped_after (x ∷ xs) zero v w (suc i) h l e = omega arith
topped_after (x ∷ xs) (suc j) v w zero h l e = absurd (omega arith)
topped_after (x ∷ xs) (suc j) v w (suc i) h l e = omega (arith, topped_after xs j v w i (omega arith) (omega arith) e)

-- What the first n numbers add up to at place i, where i comes before the last of them, and where it does not.
reached_early : (xs : List ℕ) (n i : ℕ) → i < n → reached (take n xs) i ≡ reached xs i
unfolding reached
reached_early [] zero i h = absurd (omega arith)
reached_early [] (suc n) i h = refl
reached_early (x ∷ xs) zero i h = absurd (omega arith)
reached_early (x ∷ xs) (suc n) zero h = refl
reached_early (x ∷ xs) (suc n) (suc i) h = ap (λ m. x + m) (reached_early xs n i (omega arith))

reached_late : (xs : List ℕ) (n i : ℕ) → n ≤ suc i → reached (take n xs) i ≡ sum_by (λ x. x) (take n xs)
reached_late xs n i h = reached_sum (take n xs) i ∙ ap (sum_by (λ x. x)) (take_all (suc i) (take n xs) (omega (arith, length-take n xs)))

-- One more number of xs, and place j of ys raised to what they add up to.
pub raise_more : (xs ys : List ℕ) (j sum w i old : ℕ) → j < length xs → j < length ys → sum ≡ sum_by (λ x. x) (take (j + 1) xs) → w ≡ max (get_or ys j 0) sum
    → topped ys i ≡ max old (reached (take j xs) i) → topped (set ys j w) i ≡ max old (reached (take (j + 1) xs) i)
raise_more xs ys j sum w i old h k s e t = go (cases_lt i j)
  where
    go : (i < j) ⊎ (j ≤ i) → topped (set ys j w) i ≡ max old (reached (take (j + 1) xs) i)
    go (inl l) =
        let a = reached_early xs j i l in
        let b = reached_early xs (j + 1) i (omega arith) in
        let c = topped_before ys j w i l in
        omega arith
    go (inr l) =
        let a = reached_late xs j i (omega arith) in
        let b = reached_late xs (j + 1) i (omega arith) in
        let c = topped_after ys j sum w i k l e in
        omega (arith, sum_by_more (λ x. x) xs j 0 h)

-- Numbers that are 0 from place n on add nothing.
reached_none : (xs : List ℕ) (i : ℕ) → ((k : ℕ) → get_or xs k 0 ≡ 0) → reached xs i ≡ 0
unfolding reached
reached_none [] i e = refl
reached_none (x ∷ xs) zero e = e 0
reached_none (x ∷ xs) (suc i) e = omega (arith, e 0, reached_none xs i (λ k. e (suc k)))

pub reached_flat : (xs : List ℕ) (n i : ℕ) → ((k : ℕ) → n ≤ k → get_or xs k 0 ≡ 0) → reached (take n xs) i ≡ reached xs i
unfolding reached
reached_flat [] zero i e = refl
reached_flat [] (suc n) i e = refl
reached_flat (x ∷ xs) zero i e = sym (reached_none (x ∷ xs) i (λ k. e k (omega arith)))
reached_flat (x ∷ xs) (suc n) zero e = refl
reached_flat (x ∷ xs) (suc n) (suc i) e = ap (λ m. x + m) (reached_flat xs n i (λ k h. e (suc k) (omega arith)))

-- The largest of the first numbers, one more, and the same as the largest up to a place.
pub top_more : (xs : List ℕ) (i : ℕ) → i < length xs → topped (take (suc i) xs) (suc i) ≡ max (topped (take i xs) i) (get_or xs i 0)
unfolding topped
top_more [] i h = absurd (omega arith)
top_more (x ∷ xs) zero h = omega arith
top_more (x ∷ xs) (suc i) h = omega (arith, top_more xs i (omega arith))

pub top_here : (xs : List ℕ) (i : ℕ) → topped (take (suc i) xs) (suc i) ≡ topped xs i
unfolding topped
top_here [] i = refl
top_here (x ∷ xs) zero = omega arith
top_here (x ∷ xs) (suc i) = ap (max x) (top_here xs i)
