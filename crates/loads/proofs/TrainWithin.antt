-- A frame released at tick o of a round of c ticks, o below c, and again after each round: before tick s it is released
-- once in each whole round, and once more if o is below the rest. So the work of a circle is a sum that is the same
-- wherever the circle begins, and the cost of the frames released within the rest.
use Rattle.std.proofs.Common.{◌≡◌, ℕ, zero, suc, ◌+◌, ◌-◌, ◌*◌, ◌/◌, ◌%◌, ◌<◌, ◌≤◌, cond, ltb, ◌⊎◌, List, [], ◌∷◌, length, take, drop, sym, refl, ap, ◌∙◌, inl, inr, add-mul, div-add-mod', mul-add, arith, take-append-drop}
use mathlib.Core.Path.{fun_ext}
use native.Mathlib.Nat.{div-eq_of_lt}
use Rattle.std.proofs.lemmas.Nat.{mod_below, div-mul-add}
use Rattle.std.proofs.lemmas.Bool.{cases_lt, lt-ltb, le-ltb}
use Rattle.theory.specs.Jobs.{All}
use Rattle.loads.specs.Params.{FrameParams, FrameRanges}
use Rattle.loads.specs.Train.{cycle, circle_from, largest_of, upto, below, sum_along, due_from, ready_from, within, train_amounts}
use Rattle.loads.specs.TrainCounts.{upto_none, upto_some, below_zero, below_upto}
use Rattle.loads.specs.TrainRanges.{all_from}
use Rattle.loads.specs.TrainCircle.{cycle_from, cycle_pos, largest_same}
use Rattle.loads.specs.TrainTally.{sum_append, times_cond}

-- Due by t are the jobs released before t + 1 less the deadline.
upto_below : (c t o d : ℕ) → 0 < c → upto c t (o + d) ≡ below c (t + 1 - d) o
upto_below c t o d p = go (cases_lt t d) (cases_lt t (o + d))
  where
    go : (t < d) ⊎ (d ≤ t) → (t < o + d) ⊎ (o + d ≤ t) → upto c t (o + d) ≡ below c (t + 1 - d) o
    go (inl h) k =
        let e : t + 1 - d ≡ 0 = omega arith in
        upto_none c t (o + d) (omega arith) ∙ sym (ap (λ s. below c s o) e ∙ below_zero c o)
    go (inr h) (inl k) =
        let e : t + 1 - d ≡ suc (t - d) = omega arith in
        let b = ap (λ s. below c s o) e ∙ below_upto c (t - d) o p ∙ upto_none c (t - d) o (omega arith) in
        upto_none c t (o + d) k ∙ sym b
    go (inr h) (inr k) =
        let e : t + 1 - d ≡ suc (t - d) = omega arith in
        let b = ap (λ s. below c s o) e ∙ below_upto c (t - d) o p ∙ upto_some c (t - d) o (omega arith) in
        let m : t - (o + d) ≡ t - d - o = omega arith in
        upto_some c t (o + d) k ∙ ap (λ x. 1 + x / c) m ∙ sym b

below_split : (c s o : ℕ) → o < c → below c s o ≡ s / c + cond (ltb o (s % c)) 1 0
below_split c s o h = go (cases_lt o (s % c)) (cases_lt o s)
  where
    whole : s / c * c + s % c ≡ s
    whole = div-add-mod' s c

    go : (o < s % c) ⊎ (s % c ≤ o) → (o < s) ⊎ (s ≤ o) → below c s o ≡ s / c + cond (ltb o (s % c)) 1 0
    go (inl k) _ =
        let m = add-mul (s / c) 1 c in
        let r = mod_below s c (omega arith) in
        let e : s - o + (c - 1) ≡ (s / c + 1) * c + (s % c - o - 1) = omega (arith, whole) in
        let d = ap (λ x. x / c) e ∙ div-mul-add (s / c + 1) c (s % c - o - 1) (omega arith) in
        rw (lt-ltb o s (omega (arith, whole)), lt-ltb o (s % c) k) d
    go (inr k) (inl l) =
        let e : s - o + (c - 1) ≡ s / c * c + (s % c + (c - 1) - o) = omega (arith, whole) in
        let d = ap (λ x. x / c) e ∙ div-mul-add (s / c) c (s % c + (c - 1) - o) (omega arith) in
        rw (lt-ltb o s l, le-ltb o (s % c) k) (omega (arith, d))
    go (inr k) (inr l) =
        let d : s / c ≡ 0 = div-eq_of_lt (omega arith) in
        rw (le-ltb o s l, le-ltb o (s % c) k) (omega arith)

-- The work released of each frame f before tick ends f, of frames that are all released in one round.
sum_split : (ends : FrameParams → ℕ) (c off : ℕ) (fs : List FrameParams) → All FrameRanges fs → off + cycle fs ≤ c
    → sum_along (λ f o. f.cost * below c (ends f) o) off fs
    ≡ sum_along (λ f o. f.cost * (ends f / c)) off fs + within (λ f. ends f % c) off fs
unfolding sum_along cycle
sum_split ends c off [] a h = refl
sum_split ends c off (f ∷ fs) a h =
    let ih = sum_split ends c (off + f.gap) fs a.1 (omega arith) in
    let b = ap (λ n. f.cost * n) (below_split c (ends f) off (omega (arith, a.0.gap_least))) in
    let m = mul-add f.cost (ends f / c) (cond (ltb off (ends f % c)) 1 0) in
    let k = times_cond (ltb off (ends f % c)) f.cost in
    omega arith

-- What does not depend on the release has the same sum wherever the first release lies.
pub sum_any_start : (g : FrameParams → ℕ) (a b : ℕ) (fs : List FrameParams) → sum_along (λ f o. g f) a fs ≡ sum_along (λ f o. g f) b fs
unfolding sum_along
sum_any_start g a b [] = refl
sum_any_start g a b (f ∷ fs) = ap (λ n. g f + n) (sum_any_start g (a + f.gap) (b + f.gap) fs)

sum_circle : (g : FrameParams → ℕ) (k : ℕ) (fs : List FrameParams) → sum_along (λ f o. g f) 0 (circle_from k fs) ≡ sum_along (λ f o. g f) 0 fs
unfolding circle_from
sum_circle g k fs =
    let a = sum_append (λ f o. g f) 0 (drop k fs) (take k fs) in
    let b = sum_append (λ f o. g f) 0 (take k fs) (drop k fs) in
    let d = sum_any_start g (0 + cycle (drop k fs)) 0 (take k fs) in
    let e = sum_any_start g (0 + cycle (take k fs)) 0 (drop k fs) in
    let w = ap (λ (l : List FrameParams). sum_along (λ f o. g f) 0 l) (take-append-drop k fs) in
    omega arith

sum_times : (q off : ℕ) (fs : List FrameParams) → sum_along (λ f o. f.cost) off fs * q ≡ sum_along (λ f o. f.cost * q) off fs
unfolding sum_along
sum_times q off [] = omega arith
sum_times q off (f ∷ fs) =
    let ih = sum_times q (off + f.gap) fs in
    let m = add-mul f.cost (sum_along (λ f o. f.cost) (off + f.gap) fs) q in
    omega arith

-- What is added to each is added to the largest.
largest_add : (g : ℕ → ℕ) (b n : ℕ) → b + largest_of g (suc n) ≡ largest_of (λ k. b + g k) (suc n)
unfolding largest_of
largest_add g b zero = omega arith
largest_add g b (suc n) = let ih = largest_add g b n in omega arith

-- The same sum wherever the circle begins, and the largest rest.
most_split : (ends : FrameParams → ℕ) (c : ℕ) (fs : List FrameParams) → All FrameRanges fs → c ≡ cycle fs
    → sum_along (λ f o. f.cost * (ends f / c)) 0 fs + largest_of (λ k. within (λ f. ends f % c) 0 (circle_from k fs)) (length fs)
    ≡ largest_of (λ k. sum_along (λ f o. f.cost * below c (ends f) o) 0 (circle_from k fs)) (length fs)
unfolding largest_of sum_along
most_split ends c [] a e = refl
most_split ends c (f ∷ fs) a e =
    largest_add (λ k. within (λ f. ends f % c) 0 (circle_from k (f ∷ fs))) (sum_along (λ f o. f.cost * (ends f / c)) 0 (f ∷ fs)) (length fs)
    ∙ largest_same _ _ (suc (length fs)) (λ k _. sym (one k))
  where
    one : (k : ℕ) → sum_along (λ f o. f.cost * below c (ends f) o) 0 (circle_from k (f ∷ fs))
        ≡ sum_along (λ f o. f.cost * (ends f / c)) 0 (f ∷ fs) + within (λ f. ends f % c) 0 (circle_from k (f ∷ fs))
    one k =
        let s = sum_split ends c 0 (circle_from k (f ∷ fs)) (all_from FrameRanges k (f ∷ fs) a) (omega (arith, cycle_from k (f ∷ fs))) in
        let t = sum_circle (λ f. f.cost * (ends f / c)) k (f ∷ fs) in
        omega arith

-- What is due by t, each frame released before t + 1 less its deadline; and what is ready within s, each before s.
pub due_split : (t c : ℕ) (fs : List FrameParams) → All FrameRanges fs → c ≡ cycle fs
    → sum_along (λ f o. f.cost * ((t + 1 - f.deadline) / c)) 0 fs + largest_of (λ k. within (λ f. (t + 1 - f.deadline) % c) 0 (circle_from k fs)) (length fs)
    ≡ (train_amounts fs).due t
unfolding train_amounts largest_of sum_along
due_split t c [] a e = refl
due_split t c (f ∷ fs) a e =
    most_split (λ f. t + 1 - f.deadline) c (f ∷ fs) a e
    ∙ ap (λ (g : FrameParams → ℕ → ℕ). largest_of (λ k. sum_along g 0 (circle_from k (f ∷ fs))) (length (f ∷ fs)))
    (fun_ext (λ h. fun_ext (λ o. ap (λ n. h.cost * n) (sym (upto_below c t o h.deadline (omega (arith, cycle_pos f fs a.0)))))))
    ∙ ap (λ n. largest_of (λ k. due_from n t 0 (circle_from k (f ∷ fs))) (length (f ∷ fs))) e

pub ready_split : (s c : ℕ) (fs : List FrameParams) → All FrameRanges fs → c ≡ cycle fs
    → sum_along (λ f o. f.cost) 0 fs * (s / c) + largest_of (λ k. within (λ f. s % c) 0 (circle_from k fs)) (length fs) ≡ (train_amounts fs).ready s
unfolding train_amounts
ready_split s c fs a e =
    ap (λ n. n + largest_of (λ k. within (λ f. s % c) 0 (circle_from k fs)) (length fs)) (sum_times (s / c) 0 fs)
    ∙ most_split (λ f. s) c fs a e
    ∙ ap (λ n. largest_of (λ k. ready_from n s 0 (circle_from k fs)) (length fs)) e
