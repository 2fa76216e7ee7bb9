-- Frames taken in a circle.
use Rattle.std.specs.Prelude.{◌≡◌, ℕ, zero, suc, ◌+◌, ◌<◌, ◌≤◌, max, Bool, false, ◌⊎◌, List, [], ◌∷◌, ◌++◌, length, take, drop, ◌≢◌, slice_index_or, refl}
use Rattle.std.proofs.Common.{sym, ap, ap₂, ◌∙◌, subst, append_assoc, append-nil, inl, inr, arith, take-append-drop, take-suc, drop-cons, take_all}
use Rattle.std.proofs.lemmas.List.{drop_all}
use Rattle.std.proofs.lemmas.Bool.{cases_lt, cases_eq, or_parts, or_from}
use Rattle.loads.specs.Params.{FrameParams, FrameRanges}
use Rattle.loads.specs.Train.{cycle, circle_from, largest_of, any_of}

-- one frame further
abbrev pub turn : List FrameParams → List FrameParams
turn [] = []
turn (f ∷ fs) = fs ++ (f ∷ [])

abbrev pub turns : ℕ → List FrameParams → List FrameParams
turns zero fs = fs
turns (suc m) fs = turns m (turn fs)

pub cycle_append : (xs ys : List FrameParams) → cycle (xs ++ ys) ≡ cycle xs + cycle ys
unfolding cycle
cycle_append [] ys = omega arith
cycle_append (x ∷ xs) ys = let ih = cycle_append xs ys in omega arith

pub cycle_turn : (fs : List FrameParams) → cycle (turn fs) ≡ cycle fs
unfolding cycle
cycle_turn [] = refl
cycle_turn (f ∷ fs) = let q = cycle_append fs (f ∷ []) in omega arith

pub cycle_from : (k : ℕ) (fs : List FrameParams) → cycle (circle_from k fs) ≡ cycle fs
unfolding circle_from
cycle_from k fs =
    let a = cycle_append (drop k fs) (take k fs) in
    let b = cycle_append (take k fs) (drop k fs) in
    let e = ap cycle (take-append-drop k fs) in
    omega arith

pub cycle_pos : (f : FrameParams) (fs : List FrameParams) → FrameRanges f → 0 < cycle (f ∷ fs)
unfolding cycle
cycle_pos f fs r = omega arith

from_next : (f : FrameParams) (fs : List FrameParams) (k : ℕ) → k < length (f ∷ fs) → turn (circle_from k (f ∷ fs)) ≡ circle_from (suc k) (f ∷ fs)
unfolding circle_from
from_next f fs k h =
    ap (λ (l : List FrameParams). turn (l ++ take k (f ∷ fs))) (drop-cons (f ∷ fs) k f h)
    ∙ append_assoc (drop (suc k) (f ∷ fs)) (take k (f ∷ fs)) (slice_index_or (f ∷ fs) k f ∷ [])
    ∙ ap (λ (l : List FrameParams). drop (suc k) (f ∷ fs) ++ l) (sym (take-suc (f ∷ fs) k f h))

from_past : (k : ℕ) (fs : List FrameParams) → length fs ≤ k → circle_from k fs ≡ circle_from 0 fs
unfolding circle_from
from_past k fs h =
    ap (λ (l : List FrameParams). l ++ take k fs) (drop_all k fs h) ∙ take_all k fs h ∙ sym (append-nil fs)

-- a place of the circle
abbrev pub Placed : List FrameParams → List FrameParams → Type 0
Placed fs gs = (j : ℕ) × (j < length fs) × (gs ≡ circle_from j fs)

placed : (f : FrameParams) (fs : List FrameParams) (k : ℕ) → Placed (f ∷ fs) (circle_from k (f ∷ fs))
placed f fs k = go (cases_lt k (length (f ∷ fs)))
  where
    go : (k < length (f ∷ fs)) ⊎ (length (f ∷ fs) ≤ k) → Placed (f ∷ fs) (circle_from k (f ∷ fs))
    go (inl h) = (k, h, refl)
    go (inr h) = (0, omega arith, from_past k (f ∷ fs) h)

-- however far it is turned, it is taken from one of the frames
pub reach : (f : FrameParams) (fs : List FrameParams) (m k : ℕ) → Placed (f ∷ fs) (turns m (circle_from k (f ∷ fs)))
reach f fs zero k = placed f fs k
reach f fs (suc m) k = go (placed f fs k) (reach f fs m)
  where
    go : Placed (f ∷ fs) (circle_from k (f ∷ fs)) → ((i : ℕ) → Placed (f ∷ fs) (turns m (circle_from i (f ∷ fs)))) → Placed (f ∷ fs) (turns m (turn (circle_from k (f ∷ fs))))
    go (j, h, e) ih =
        let q : turn (circle_from k (f ∷ fs)) ≡ circle_from (suc j) (f ∷ fs) = ap turn e ∙ from_next f fs j h in
        subst (λ (l : List FrameParams). Placed (f ∷ fs) (turns m l)) (sym q) (ih (suc j))

pub largest_at : (g : ℕ → ℕ) (n k : ℕ) → k < n → g k ≤ largest_of g n
unfolding largest_of
largest_at g zero k h = absurd (omega arith)
largest_at g (suc n) k h = go (cases_eq k n) (largest_at g n k)
  where
    go : (k ≡ n) ⊎ (k ≢ n) → (k < n → g k ≤ largest_of g n) → g k ≤ max (g n) (largest_of g n)
    go (inl e) ih = let q = ap g e in omega arith
    go (inr d) ih = let i = ih (omega arith) in omega arith

pub largest_le : (g : ℕ → ℕ) (n b : ℕ) → ((k : ℕ) → k < n → g k ≤ b) → largest_of g n ≤ b
unfolding largest_of
largest_le g zero b h = omega arith
largest_le g (suc n) b h =
    let ih = largest_le g n b (λ k l. h k (omega arith)) in
    let x = h n (omega arith) in
    omega arith

pub largest_mono : (g h : ℕ → ℕ) (n : ℕ) → ((k : ℕ) → k < n → g k ≤ h k) → largest_of g n ≤ largest_of h n
largest_mono g h n p = largest_le g n (largest_of h n) (λ k l. let q = p k l in let r = largest_at h n k l in omega arith)

pub largest_same : (g h : ℕ → ℕ) (n : ℕ) → ((k : ℕ) → k < n → g k ≡ h k) → largest_of g n ≡ largest_of h n
unfolding largest_of
largest_same g h zero p = refl
largest_same g h (suc n) p = ap₂ max (p n (omega arith)) (largest_same g h n (λ k l. p k (omega arith)))

pub any_none : (g : ℕ → Bool) (n : ℕ) → any_of g n ≡ false → (k : ℕ) → k < n → g k ≡ false
unfolding any_of
any_none g zero e k h = absurd (omega arith)
any_none g (suc n) e k h = go (or_parts (g n) (any_of g n) e) (cases_eq n k) (any_none g n)
  where
    go : (g n ≡ false) × (any_of g n ≡ false) → (n ≡ k) ⊎ (n ≢ k) → (any_of g n ≡ false → (k : ℕ) → k < n → g k ≡ false) → g k ≡ false
    go (a, b) (inl q) ih = ap g (sym q) ∙ a
    go (a, b) (inr d) ih = ih b k (omega arith)

pub none_any : (g : ℕ → Bool) (n : ℕ) → ((k : ℕ) → k < n → g k ≡ false) → any_of g n ≡ false
unfolding any_of
none_any g zero h = refl
none_any g (suc n) h = or_from (g n) (any_of g n) (h n (omega arith)) (none_any g n (λ k l. h k (omega arith)))
