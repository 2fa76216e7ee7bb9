-- The work of a train at each tick of a row: the frames with how many ticks after their release they count.
use Rattle.std.proofs.Common.{◌≡◌, ℕ, ◌+◌, ◌*◌, ◌<◌, ◌≤◌, min, max, List, [], ◌∷◌, ◌++◌, length, get_or, take, drop, sym, refl, ap, ◌∙◌, add-one, arith, take-append-drop, add-zero, add_assoc}
use Rattle.std.specs.List.{sum_by}
use Rattle.std.proofs.lemmas.List.{drop_all, drop_more}
use Rattle.std.proofs.lemmas.List.Sums.{sum_by-append}
use Rattle.theory.specs.Jobs.{All}
use Rattle.loads.specs.declared.train.rest.FrameRest.{FrameRest}
use Rattle.loads.specs.Params.{FrameParams, FrameRanges}
use Rattle.loads.specs.Train.{cycle, circle_from, largest_of, upto, train_amounts}
use Rattle.loads.specs.TrainTally.{tally, comes}
use Rattle.loads.specs.TrainLaws.{ready_is}
use Rattle.loads.specs.TrainRests.{gaps, counts}

-- A circle has the same frames wherever it begins.
pub sum_from : {A : Type 0} (g : A → ℕ) (k : ℕ) (fs : List A) → sum_by g (circle_from k fs) ≡ sum_by g fs
unfolding circle_from
sum_from g k fs =
    let a = sum_by-append g (drop k fs) (take k fs) in
    let b = sum_by-append g (take k fs) (drop k fs) in
    let e = ap (sum_by g) (take-append-drop k fs) in
    omega arith

-- Each frame takes a tick of the round.
pub few_rests : (fs : List FrameRest) → length fs ≤ gaps fs
few_rests [] = omega arith
few_rests (f ∷ fs) = omega (arith, few_rests fs, f.frame.gap_range.0)

-- The work of the first frame ahead added to what there was, which stops at m.
pub counts_turn : (c t off : ℕ) (fs : List FrameRest) (i : ℕ) (f : FrameRest) (cost gap old new m : ℕ) → i < length fs → f ≡ get_or fs i f → cost ≡ f.frame.cost → gap ≡ f.frame.gap
    → min new m ≡ min (old + cost * upto c t (off + f.rest)) m → min (new + counts c t (off + gap) (drop (i + 1) fs)) m ≡ min (old + counts c t off (drop i fs)) m
counts_turn c t off fs i f cost gap old new m h e p q s =
    let n = ap (counts c t off) (drop_more fs i f h ∙ ap (λ (x : FrameRest). x ∷ drop (i + 1) fs) (sym e)) in
    let u = ap (λ x. x * upto c t (off + f.rest)) p in
    let g = ap (λ x. counts c t (off + x) (drop (i + 1) fs)) q in
    omega arith

-- No frame ahead.
pub counts_end : (c t off : ℕ) (fs : List FrameRest) (i : ℕ) → length fs ≤ i → counts c t off (drop i fs) ≡ 0
counts_end c t off fs i h = ap (counts c t off) (drop_all i fs h)

-- The work of one run and of another one after it.
pub counts_append : (c t off : ℕ) (xs ys : List FrameRest) → counts c t off (xs ++ ys) ≡ counts c t off xs + counts c t (off + gaps xs) ys
counts_append c t off [] ys = rw add-zero (omega arith)
counts_append c t off (x ∷ xs) ys = rw (← add_assoc off x.frame.gap (gaps xs)) (omega (arith, counts_append c t (off + x.frame.gap) xs ys))

-- The largest of one more.
pub largest_next : (g : ℕ → ℕ) (k : ℕ) → largest_of g (k + 1) ≡ max (g k) (largest_of g k)
unfolding largest_of
largest_next g k = rw add-one

-- What is ready before s + 1 is what is released up to s.
pub ready_row : (fs : List FrameParams) → All FrameRanges fs → (s : ℕ) → largest_of (λ k. tally comes (cycle fs) s 0 (circle_from k fs)) (length fs) ≡ (train_amounts fs).ready (s + 1)
unfolding train_amounts largest_of
ready_row [] r s = refl
ready_row (f ∷ fs) r s = sym (ready_is f fs r.0 s) ∙ ap (train_amounts (f ∷ fs)).ready (sym (add-one s))
