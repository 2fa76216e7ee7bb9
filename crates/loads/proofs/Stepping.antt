-- What grows in steps: a number added at one place, the steps that fall into a row, and the sums along it.
use Rattle.std.proofs.Common.{◌≢◌, get_or-set_other, get_or-set_same, below_more, ◌≡◌, ℕ, zero, suc, ◌+◌, ◌-◌, ◌*◌, ◌/◌, ◌<◌, ◌≤◌, min, cond, List, [], ◌∷◌, length, get_or, set, take, ap, ◌∙◌, ap₂, refl, arith, map, ◌++◌, take_all, replicate, add-mul, mul-add, zero-add, sym, ◌⊎◌, inl, inr}
use Rattle.std.specs.Prelude.{nat_le}
use Rattle.std.specs.Int.{div_ceil}
use Rattle.std.specs.List.{sum_by, range_with_len}
use Rattle.std.proofs.lemmas.List.{take_more_set, length-replicate}
use Rattle.std.proofs.lemmas.List.FromFn.{map-range_with_len_more}
use Rattle.std.proofs.lemmas.List.Sums.{sum_by-cons}
use Rattle.std.proofs.lemmas.Bool.{cases_lt, le-leb, lt-leb}
use Rattle.std.proofs.lemmas.Grind.{div_ceil_times}
use Rattle.loads.specs.Train.{upto}
use Rattle.loads.specs.TrainCounts.{upto_some, upto_none, upto_step}
use Rattle.loads.specs.Steps.{reached}

pub reached_zeros : (n i : ℕ) → reached (replicate n 0) i ≡ 0
unfolding reached
reached_zeros zero i = refl
reached_zeros (suc n) zero = refl
reached_zeros (suc n) (suc i) = omega (arith, reached_zeros n i)

pub zero_at : (n i : ℕ) → get_or {A = ℕ} (replicate n 0) i 0 ≡ 0
zero_at zero i = refl
zero_at (suc n) zero = refl
zero_at (suc n) (suc i) = zero_at n i

-- with another number at place j
reached_before : (xs : List ℕ) (j v i : ℕ) → i < j → reached (set xs j v) i ≡ reached xs i
unfolding reached
reached_before [] j v i h = refl
reached_before (x ∷ xs) zero v i h = absurd (omega arith)
reached_before (x ∷ xs) (suc j) v zero h = refl
reached_before (x ∷ xs) (suc j) v (suc i) h = ap (λ n. x + n) (reached_before xs j v i (omega arith))

reached_after : (xs : List ℕ) (j v i : ℕ) → j < length xs → j ≤ i → reached (set xs j v) i + get_or xs j 0 ≡ reached xs i + v
unfolding reached
reached_after [] j v i h l = absurd (omega arith)
reached_after (x ∷ xs) zero v zero h l = omega arith
reached_after (x ∷ xs) zero v (suc i) h l = omega arith
reached_after (x ∷ xs) (suc j) v zero h l = absurd (omega arith)
reached_after (x ∷ xs) (suc j) v (suc i) h l = omega (arith, reached_after xs j v i (omega arith) (omega arith))

read_le : (xs : List ℕ) (j i : ℕ) → j ≤ i → get_or xs j 0 ≤ reached xs i
unfolding reached
read_le [] j i h = omega arith
read_le (x ∷ xs) zero zero h = omega arith
read_le (x ∷ xs) zero (suc i) h = omega arith
read_le (x ∷ xs) (suc j) zero h = absurd (omega arith)
read_le (x ∷ xs) (suc j) (suc i) h = omega (arith, read_le xs j i (omega arith))

-- c more at place j, where the number there stops at m
reached_more : (xs : List ℕ) (j v c m i : ℕ) → j < length xs → v ≡ min (get_or xs j 0 + c) m
    → min (reached (set xs j v) i) m ≡ min (reached xs i + c * cond (nat_le j i) 1 0) m
reached_more xs j v c m i h e = go (cases_lt i j)
  where
    go : (i < j) ⊎ (j ≤ i) → min (reached (set xs j v) i) m ≡ min (reached xs i + c * cond (nat_le j i) 1 0) m
    go (inl l) = let b = reached_before xs j v i l in rw (lt-leb j i l) (omega arith)
    go (inr l) = let b = reached_after xs j v i h l in let r = read_le xs j i l in rw (le-leb j i l) (omega arith)

-- the first n of a, a + c, .. and the others
pub upto_first : (c t n a : ℕ) → 0 < c → n * c < t + 1 - a + c → upto c t a ≡ n + upto c t (a + n * c)
upto_first c t zero a p h = let e : a + 0 * c ≡ a = omega arith in ap (upto c t) (sym e) ∙ sym (zero-add (upto c t (a + 0 * c)))
upto_first c t (suc n) a p h =
    let l : a ≤ t = omega (arith, add-mul n 1 c) in
    let e : a + c + n * c ≡ a + suc n * c = omega (arith, add-mul n 1 c) in
    let r = upto_first c t n (a + c) p (omega (arith, add-mul n 1 c)) in
    let s = ap (upto c t) e in
    upto_step c t a p ∙ rw (le-leb a t l) (omega arith)

-- both ends moved by w
pub upto_moved : (c w i d : ℕ) → upto c (w + i) (w + d) ≡ upto c i d
upto_moved c w i d = go (cases_lt i d)
  where
    go : (i < d) ⊎ (d ≤ i) → upto c (w + i) (w + d) ≡ upto c i d
    go (inl h) = upto_none c (w + i) (w + d) (omega arith) ∙ sym (upto_none c i d h)
    go (inr h) =
        let e : w + i - (w + d) ≡ i - d = omega arith in
        upto_some c (w + i) (w + d) (omega arith) ∙ ap (λ x. 1 + x / c) e ∙ sym (upto_some c i d h)

-- Of b, b + c, .. those before tick w, and the others counted from w on.
upto_from : (c w b n i : ℕ) → 0 < c → w - b ≤ n * c → n * c < w - b + c → upto c (w + i) b ≡ n + upto c i (b + n * c - w)
upto_from c w b n i p l h =
    let e : b + n * c ≡ w + (b + n * c - w) = omega arith in
    upto_first c (w + i) n b p (omega arith) ∙ ap (λ x. n + upto c (w + i) x) e ∙ ap (λ x. n + x) (upto_moved c w i (b + n * c - w))

-- One step at a, and the others from a + c on.
pub steps_more : (xs : List ℕ) (c k a v m i : ℕ) → a < length xs → 0 < c → v ≡ min (get_or xs a 0 + k) m
    → min (reached (set xs a v) i + k * upto c i (a + c)) m ≡ min (reached xs i + k * upto c i a) m
steps_more xs c k a v m i h p e =
    let s = reached_more xs a v k m i h e in
    let u = ap (λ x. k * x) (upto_step c i a p) ∙ mul-add k (cond (nat_le a i) 1 0) (upto c i (a + c)) in
    omega arith

-- The steps before tick w at place 0, and the others from w on.
pub steps_before : (xs : List ℕ) (c w b k n v m i : ℕ) → 0 < length xs → 0 < c → n ≡ div_ceil (w - b) c → v ≡ min (get_or xs 0 0 + k * n) m
    → min (reached (set xs 0 v) i + k * upto c i (b + n * c - w)) m ≡ min (reached xs i + k * upto c (w + i) b) m
steps_before xs c w b k n v m i h p q e =
    let t = div_ceil_times (w - b) c p in
    let t' = ap (λ x. x * c) q in
    let s = reached_more xs 0 v (k * n) m i h e in
    let s' = rw (le-leb 0 i (omega arith)) at s in
    let u = ap (λ x. k * x) (upto_from c w b n i p (omega arith) (omega arith)) ∙ mul-add k n (upto c i (b + n * c - w)) in
    omega arith

-- What it has grown to, as a sum.
pub reached_sum : (xs : List ℕ) (i : ℕ) → reached xs i ≡ sum_by (λ x. x) (take (suc i) xs)
unfolding reached
reached_sum [] i = refl
reached_sum (x ∷ xs) zero = omega arith
reached_sum (x ∷ xs) (suc i) = omega (arith, reached_sum xs i, sum_by-cons (λ x. x) x (take (suc i) xs))

-- A list of f 0, f 1, .. as it is written: one more, and all of it.
pub row_more : {A : Type 0} (f : ℕ → A) (ys : List A) (i : ℕ) (y : A) → i < length ys → y ≡ f i
    → take i ys ≡ map f (range_with_len 0 i) → take (i + 1) (set ys i y) ≡ map f (range_with_len 0 (i + 1))
row_more f ys i y h e q = take_more_set ys i y h ∙ ap₂ (λ zs z. zs ++ (z ∷ [])) q e ∙ sym (map-range_with_len_more f 0 i i (zero-add i))

pub row_whole : {A : Type 0} (f : ℕ → A) (ys : List A) (i n : ℕ) → i ≡ n → length ys ≡ n
    → take i ys ≡ map f (range_with_len 0 i) → ys ≡ map f (range_with_len 0 n)
row_whole f ys i n e h q = sym (take_all i ys (omega arith)) ∙ q ∙ ap (λ m. map f (range_with_len 0 m)) e

-- One more place of a row that is filled in order.
pub filled_more : (f : ℕ → ℕ) (ys : List ℕ) (i v : ℕ) → i < length ys → v ≡ f i → ((j : ℕ) → j < i → get_or ys j 0 ≡ f j) → (j : ℕ) → j < i + 1 → get_or (set ys i v) j 0 ≡ f j
filled_more f ys i v h e b = below_more _ _
    (λ k l. let n : k ≢ i = omega arith in rw get_or-set_other (b k l))
    (rw get_or-set_same e)

-- A number at the first place alone.
pub first_next : (n v i : ℕ) → 0 < i → get_or (set (replicate n 0) 0 v) i 0 ≡ 0
first_next zero v i h = refl
first_next (suc n) v zero h = absurd (omega arith)
first_next (suc n) v (suc i) h = zero_at n i

pub first_most : (n v m i : ℕ) → v ≤ m → get_or (set (replicate n 0) 0 v) i 0 ≤ m
first_most zero v m i h = omega arith
first_most (suc n) v m zero h = h
first_most (suc n) v m (suc i) h = omega (arith, zero_at n i)

pub first_reached : (n v i : ℕ) → 0 < n → reached (set (replicate n 0) 0 v) i ≡ v
first_reached n v i h = omega (arith, reached_after (replicate n 0) 0 v i (omega (arith, length-replicate {A = ℕ} n 0)) (omega arith), reached_zeros n i, zero_at n 0)
