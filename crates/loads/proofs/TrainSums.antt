-- The sums over the frames of a train, as its records keep them and its loops count them.
use Rattle.std.proofs.Common.{◌≡◌, ℕ, zero, suc, ◌+◌, ◌*◌, ◌<◌, ◌≤◌, max, cond, ltb, List, [], ◌∷◌, ◌++◌, map, length, get_or, take, drop, set, None, sym, subst, refl, ap, ap₂, ◌∙◌, arith, add-one, zero-add, add-zero, add_assoc, length-append, length-drop, length-take, get_or-take, get_or-drop, take_all}
use mathlib.Core.List.{map-append}
use lib.ListN.{length-map}
use Rattle.std.specs.List.{fold, sum_by, range_with_len}
use Rattle.std.proofs.lemmas.List.{take-map, drop-map, take_more_set, map_more}
use Rattle.std.proofs.lemmas.List.FromFn.{map-range_with_len_more}
use Rattle.std.proofs.lemmas.List.Recursion.{is_sum_by}
use Rattle.std.proofs.lemmas.List.Sums.{sum_by-cons, fold_push}
use Rattle.loads.specs.declared.frame.Frame.{Frame}
use Rattle.loads.specs.declared.train.RampTrain.{RampTrain}
use Rattle.loads.specs.declared.train.rest.FrameRest.{FrameRest}
use Rattle.loads.specs.FixedVecs.{items_of, items_few}
use Rattle.loads.specs.Params.{FrameParams}
use Rattle.loads.specs.Making.{frame_params}
use Rattle.theory.specs.Meaning.{last_mark}
use Rattle.theory.proofs.LastMark.{last_none}
use Rattle.loads.specs.Train.{cycle, circle_from, largest_of, any_of, sum_along, within, train_amounts}
use Rattle.loads.specs.TrainCircle.{largest_le, largest_same}
use Rattle.loads.specs.TrainRests.{gaps, cost_within}
use Rattle.loads.specs.TrainTally.{cond_le}
use Rattle.loads.proofs.TrainWithin.{sum_any_start}

pub cycle_sum : (fs : List Frame) → cycle (map frame_params fs) ≡ sum_by (λ (f : Frame). f.gap) fs
unfolding cycle
cycle_sum = is_sum_by (λ fs. cycle (map frame_params fs)) (λ f. f.gap) refl (λ _ _. refl)

pub cycle_positive : (fs : List Frame) → 0 < length fs → 0 < cycle (map frame_params fs)
unfolding cycle
cycle_positive [] h = absurd (omega arith)
cycle_positive (f ∷ fs) h = omega (arith, f.gap_range.0)

sum_most : (g : Frame → ℕ) → ((f : Frame) → g f ≤ 10000000) → (fs : List Frame) → sum_by g fs ≤ 10000000 * length fs
sum_most g b [] = omega arith
sum_most g b (f ∷ fs) = omega (arith, sum_by-cons g f fs, sum_most g b fs, b f)

-- The sums that a train keeps are those of at most sixteen frames, of at most 10,000,000 each.
pub few_gaps : (r : RampTrain) → r.round ≤ 160000000
few_gaps r = omega (arith, r.gaps, sum_most (λ f. f.gap) (λ f. f.gap_range.1) (items_of r.frames), items_few r.frames)

pub few_costs : (r : RampTrain) → r.work ≤ 160000000
few_costs r = omega (arith, r.costs, sum_most (λ f. f.cost) (λ f. f.cost_range.1) (items_of r.frames), items_few r.frames)

-- What does not depend on the release is summed up frame by frame.
pub sum_by_frame : (g : FrameParams → ℕ) (fs : List Frame) → sum_along (λ f o. g f) 0 (map frame_params fs) ≡ sum_by (λ (f : Frame). g (frame_params f)) fs
unfolding sum_along
sum_by_frame g = is_sum_by (λ fs. sum_along (λ f o. g f) 0 (map frame_params fs)) (λ f. g (frame_params f)) refl
    (λ f fs. ap (λ n. g (frame_params f) + n) (sum_any_start g (0 + f.gap) 0 (map frame_params fs)))

pub work_sum : (fs : List Frame) → sum_along (λ f o. f.cost) 0 (map frame_params fs) ≡ sum_by (λ (f : Frame). f.cost) fs
work_sum = sum_by_frame (λ f. f.cost)

-- A frame with its rest.
abbrev pub with_rest : (FrameParams → ℕ) → Frame → FrameRest
with_rest rest f = record { frame = f; rest = rest (frame_params f) }

-- The cost released within the rests, as the code's list has it and as the definition has it.
rests_within : (rest : FrameParams → ℕ) (off : ℕ) (fs : List Frame) → cost_within off (map (with_rest rest) fs) ≡ within rest off (map frame_params fs)
unfolding sum_along
rests_within rest off [] = refl
rests_within rest off (f ∷ fs) = ap (λ n. cond (ltb off (rest (frame_params f))) f.cost 0 + n) (rests_within rest (off + f.gap) fs)

pub circle_map : {A B : Type 0} (g : A → B) (k : ℕ) (xs : List A) → circle_from k (map g xs) ≡ map g (circle_from k xs)
unfolding circle_from
circle_map g k xs = ap₂ ◌++◌ (drop-map g k xs) (take-map g k xs) ∙ sym (map-append g (drop k xs) (take k xs))

-- The largest such cost over the beginnings of the circle, where the places `ls` hold the frames with their rests.
pub most_rests : (rest : FrameParams → ℕ) (fs : List Frame) (ls : List FrameRest) → ls ≡ map (with_rest rest) fs
    → largest_of (λ k. cost_within 0 (circle_from k ls)) (length ls) ≡ largest_of (λ k. within rest 0 (circle_from k (map frame_params fs))) (length (map frame_params fs))
most_rests rest fs ls e =
    ap (λ (ms : List FrameRest). largest_of (λ k. cost_within 0 (circle_from k ms)) (length ms)) e
    ∙ ap (largest_of (λ k. cost_within 0 (circle_from k (map (with_rest rest) fs)))) (length-map fs (with_rest rest) ∙ sym (length-map fs frame_params))
    ∙ largest_same _ _ (length (map frame_params fs))
    (λ k _. ap (cost_within 0) (circle_map (with_rest rest) k fs) ∙ rests_within rest 0 (circle_from k fs) ∙ ap (within rest 0) (sym (circle_map frame_params k fs)))

-- One turn of a fold over 0, 1, .. n - 1, and the largest as such a fold.
pub fold_turn : {A B : Type 0} (h : B → A → B) (z : B) (g : ℕ → A) (n : ℕ) → fold h z (map g (range_with_len 0 (suc n))) ≡ h (fold h z (map g (range_with_len 0 n))) (g n)
fold_turn h z g n =
    ap (λ m. fold h z (map g (range_with_len 0 m))) (sym (add-one n))
    ∙ ap (fold h z) (map-range_with_len_more g 0 n n (zero-add n))
    ∙ fold_push h z (map g (range_with_len 0 n)) (g n)

pub most_fold : (g : ℕ → ℕ) (n : ℕ) → fold max 0 (map g (range_with_len 0 n)) ≡ largest_of g n
unfolding largest_of
most_fold g zero = refl
most_fold g (suc n) = fold_turn max 0 g n ∙ omega (arith, most_fold g n)

-- The cost within the rests of one run and of another one after it.
pub cost_append : (off : ℕ) (xs ys : List FrameRest) → cost_within off (xs ++ ys) ≡ cost_within off xs + cost_within (off + gaps xs) ys
cost_append off [] ys = rw add-zero (omega arith)
cost_append off (x ∷ xs) ys = rw (← add_assoc off x.frame.gap (gaps xs)) (omega (arith, cost_append (off + x.frame.gap) xs ys))

cost_most : (off : ℕ) (ls : List FrameRest) → cost_within off ls ≤ 10000000 * length ls
cost_most off [] = omega arith
cost_most off (l ∷ ls) = omega (arith, cost_most (off + l.frame.gap) ls, cond_le (ltb off l.rest) l.frame.cost, l.frame.cost_range.1)

pub most_small : (ls : List FrameRest) → length ls ≤ 16 → largest_of (λ k. cost_within 0 (circle_from k ls)) (length ls) ≤ 160000000
unfolding circle_from
most_small ls h = largest_le (λ k. cost_within 0 (drop k ls ++ take k ls)) (length ls) 160000000
    (λ k l. omega (arith, cost_most 0 (drop k ls ++ take k ls), length-append (drop k ls) (take k ls), length-drop k ls, length-take k ls))

-- The first i places hold what `g` gives of the first i elements: one more is written, and then all are.
pub written_more : {A B : Type 0} (g : A → B) (xs : List A) (ys : List B) (i : ℕ) (x : A) (y : B) → i < length xs → i < length ys → x ≡ get_or xs i x → y ≡ g x
    → take i ys ≡ map g (take i xs) → take (i + 1) (set ys i y) ≡ map g (take (i + 1) xs)
written_more g xs ys i x y h l e p q = take_more_set ys i y l ∙ ap₂ (λ zs z. zs ++ (z ∷ [])) q (p ∙ ap g e) ∙ sym (map_more g xs i x h)

pub written_all : {A B : Type 0} (g : A → B) (xs : List A) (ys : List B) (i : ℕ) → i ≡ length xs → take i ys ≡ map g (take i xs) → take (length xs) ys ≡ map g xs
written_all g xs ys i e q = ap (λ n. take n ys) (sym e) ∙ q ∙ ap (map g) (take_all i xs (omega arith))

-- Without frames nothing is due or ready, and there is no mark.
pub due_none : (fs : List Frame) (t : ℕ) → length fs ≡ 0 → 0 ≡ (train_amounts (map frame_params fs)).due t
unfolding train_amounts largest_of
due_none [] t h = refl
due_none (f ∷ fs) t h = absurd (omega arith)

pub ready_none : (fs : List Frame) (s : ℕ) → length fs ≡ 0 → 0 ≡ (train_amounts (map frame_params fs)).ready s
unfolding train_amounts largest_of
ready_none [] s h = refl
ready_none (f ∷ fs) s h = absurd (omega arith)

pub marks_none : (fs : List Frame) (t : ℕ) → length fs ≡ 0 → None ≡ last_mark (train_amounts (map frame_params fs)).mark t
unfolding train_amounts any_of
marks_none [] t h = sym (last_none t)
marks_none (f ∷ fs) t h = absurd (omega arith)

pub gaps_sum : (fs : List FrameRest) → gaps fs ≡ sum_by (λ f. f.frame.gap) fs
gaps_sum = is_sum_by gaps (λ f. f.frame.gap) refl (λ _ _. refl)

-- What holds of each frame holds of each one in a part.
pub each_front : (P : FrameRest → Type 0) (k : ℕ) (fs : List FrameRest) → k ≤ length fs → ((j : ℕ) (d : FrameRest) → j < length fs → P (get_or fs j d))
    → (j : ℕ) (d : FrameRest) → j < length (take k fs) → P (get_or (take k fs) j d)
each_front P k fs h e = λ j d l. let m : j < k = omega (arith, length-take k fs) in subst P (sym (get_or-take k fs j d m)) (e j d (omega arith))

pub each_back : (P : FrameRest → Type 0) (k : ℕ) (fs : List FrameRest) → ((j : ℕ) (d : FrameRest) → j < length fs → P (get_or fs j d))
    → (j : ℕ) (d : FrameRest) → j < length (drop k fs) → P (get_or (drop k fs) j d)
each_back P k fs e = λ j d l. subst P (sym (get_or-drop k fs j d)) (e (k + j) d (omega (arith, length-drop k fs)))
