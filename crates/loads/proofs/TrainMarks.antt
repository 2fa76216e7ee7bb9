-- The last mark of a train below a tick.
use Rattle.std.proofs.Common.{◌≡◌, ℕ, zero, suc, ◌+◌, ◌-◌, ◌*◌, ◌/◌, ◌%◌, ◌<◌, ◌≤◌, Bool, true, false, ◌||◌, eqb, leb, List, [], ◌∷◌, ◌++◌, map, length, get_or, take, drop, Some, None, Option, sym, refl, ap, ◌∙◌, ap₂, add-zero, add_assoc, mod-lt, mod-eq_of_lt, arith}
use mathlib.Core.List.{map-append}
use lib.ListN.{length-map}
use mathlib.Core.Path.{fun_ext}
use native.Mathlib.Nat.{mod-le, mod-add-div', mul-mod_left, mul-add-mod_self_right, add-mod_right}
use Rattle.std.specs.List.{fold, range_with_len}
use Rattle.std.proofs.Math.Bool.{or_assoc}
use Rattle.std.proofs.lemmas.List.{drop_all, drop_more, get_or-map}
use Rattle.std.proofs.lemmas.List.Sums.{sum_by-take-drop}
use Rattle.std.proofs.lemmas.Bool.{and_from, and_left, and_right, le-leb, lt-leb, eq-eqb, ne_eqb}
use Rattle.theory.specs.Meaning.{last_mark, later}
use Rattle.theory.proofs.LastMark.{last_is, last_either, last_none, later_none, later_assoc}
use Rattle.loads.specs.declared.frame.Frame.{Frame}
use Rattle.loads.specs.declared.train.rest.FrameRest.{FrameRest}
use Rattle.loads.specs.Params.{FrameParams}
use Rattle.loads.specs.Making.{frame_params}
use Rattle.loads.specs.Train.{cycle, circle_from, any_of, hits, mark_from, train_amounts}
use Rattle.loads.specs.TrainRests.{params, gaps, EachRest}
use Rattle.loads.proofs.TrainSums.{with_rest, circle_map, fold_turn, gaps_sum}

-- The last of the ticks a, a + c, a + 2 * c, .. below t: none while t is at most a, and else the remainder of
-- t - 1 - a by c before t - 1.
pub last_hit_none : (c t o d : ℕ) → t ≤ o + d → None ≡ last_mark (λ u. hits c u (o + d)) t
last_hit_none c t o d h = sym (last_is (λ u. hits c u (o + d)) t None (λ u l. and_left (leb (o + d) u) (eqb ((u - (o + d)) % c) 0) (lt-leb (o + d) u (omega arith))))

last_hit_some : (c t a : ℕ) → 0 < c → a < t → Some (t - 1 - (t - 1 - a) % c) ≡ last_mark (λ u. hits c u a) t
last_hit_some c t a p h = sym (last_is (λ u. hits c u a) t (Some (t - 1 - (t - 1 - a) % c)) (omega (arith, mod-le (t - 1 - a) c), there, none))
  where
    split : (t - 1 - a) % c + (t - 1 - a) / c * c ≡ t - 1 - a
    split = mod-add-div' (t - 1 - a) c

    there : hits c (t - 1 - (t - 1 - a) % c) a ≡ true
    there =
        let e : t - 1 - (t - 1 - a) % c - a ≡ (t - 1 - a) / c * c = omega (arith, split) in
        let z : (t - 1 - (t - 1 - a) % c - a) % c ≡ 0 = ap (λ x. x % c) e ∙ mul-mod_left ((t - 1 - a) / c) c in
        and_from (leb a (t - 1 - (t - 1 - a) % c)) (eqb ((t - 1 - (t - 1 - a) % c - a) % c) 0) (le-leb a (t - 1 - (t - 1 - a) % c) (omega (arith, split)))
        (eq-eqb ((t - 1 - (t - 1 - a) % c - a) % c) 0 z)

    none : (u : ℕ) → t - 1 - (t - 1 - a) % c < u → u < t → hits c u a ≡ false
    none u l k =
        let m = mod-lt (t - 1 - a) p in
        let e : u - a ≡ (t - 1 - a) / c * c + (u - (t - 1 - (t - 1 - a) % c)) = omega (arith, split) in
        let w : u - (t - 1 - (t - 1 - a) % c) < c = omega (arith, split) in
        let z : (u - a) % c ≡ u - (t - 1 - (t - 1 - a) % c) = ap (λ x. x % c) e ∙ mul-add-mod_self_right ((t - 1 - a) / c) c (u - (t - 1 - (t - 1 - a) % c)) ∙ mod-eq_of_lt w in
        and_right (leb a u) (eqb ((u - a) % c) 0) (ne_eqb ((u - a) % c) 0 (λ y. omega arith))

-- A frame with deadline d, released at tick o of a round of c ticks. The tick t - 1 is r ticks past the last of
-- d, d + c, .., and so past the last of o + d, o + d + c, .. by r - o where o is at most r, and else by r + c - o.
back_early : (c t o d r : ℕ) → o < c → o + d < t → r ≡ (t - 1 - d) % c → o ≤ r → r - o ≡ (t - 1 - (o + d)) % c
back_early c t o d r h l p k =
    let s = mod-add-div' (t - 1 - d) c in
    let m = mod-lt (t - 1 - d) {m = c} (omega arith) in
    let e : t - 1 - (o + d) ≡ (t - 1 - d) / c * c + (r - o) = omega arith in
    sym (ap (λ x. x % c) e ∙ mul-add-mod_self_right ((t - 1 - d) / c) c (r - o) ∙ mod-eq_of_lt (omega arith))

pub back_late : (c t o d r : ℕ) → o < c → o + d < t → r ≡ (t - 1 - d) % c → r < o → r + c - o ≡ (t - 1 - (o + d)) % c
back_late c t o d r h l p k =
    let s = mod-add-div' (t - 1 - d) c in
    let e : t - 1 - (o + d) + c ≡ (t - 1 - d) / c * c + (r + c - o) = omega arith in
    sym (sym (add-mod_right (t - 1 - (o + d)) c) ∙ ap (λ x. x % c) e ∙ mul-add-mod_self_right ((t - 1 - d) / c) c (r + c - o) ∙ mod-eq_of_lt (omega arith))

-- The frame's last deadline below t, in either case.
pub last_early : (c t o d r : ℕ) → o < c → o + d < t → r ≡ (t - 1 - d) % c → o ≤ r → Some (t - 1 - (r - o)) ≡ last_mark (λ u. hits c u (o + d)) t
last_early c t o d r h l p k = ap (λ x. Some (t - 1 - x)) (back_early c t o d r h l p k) ∙ last_hit_some c t (o + d) (omega arith) l

pub last_late : (c t o d r : ℕ) → o < c → o + d < t → r ≡ (t - 1 - d) % c → r < o → Some (t - 1 - (r + c - o)) ≡ last_mark (λ u. hits c u (o + d)) t
last_late c t o d r h l p k = ap (λ x. Some (t - 1 - x)) (back_late c t o d r h l p k) ∙ last_hit_some c t (o + d) (omega arith) l

-- A loop over the frames, `last` being what is found so far: one turn takes in frame i, and at the end none is left.
pub last_next : (c t off : ℕ) (fs : List FrameRest) (i : ℕ) (f : FrameRest) (gap : ℕ) (last hit both whole : Option ℕ) → i < length fs → f ≡ get_or fs i f
    → gap ≡ f.frame.gap → hit ≡ last_mark (λ u. hits c u (off + f.frame.deadline)) t → both ≡ later last hit
    → later last (last_mark (λ u. mark_from c u off (map params (drop i fs))) t) ≡ whole
    → later both (last_mark (λ u. mark_from c u (off + gap) (map params (drop (i + 1) fs))) t) ≡ whole
unfolding mark_from
last_next c t off fs i f gap last hit both whole l e q r b w =
    let ahead = last_mark (λ u. mark_from c u (off + f.frame.gap) (map params (drop (i + 1) fs))) t in
    ap₂ (λ o d. later o (last_mark (λ u. mark_from c u (off + d) (map params (drop (i + 1) fs))) t)) (b ∙ ap (later last) r) q
    ∙ sym (later_assoc last (last_mark (λ u. hits c u (off + f.frame.deadline)) t) ahead)
    ∙ ap (later last) (sym (last_either (λ u. hits c u (off + f.frame.deadline)) (λ u. mark_from c u (off + f.frame.gap) (map params (drop (i + 1) fs))) t))
    ∙ ap (λ (gs : List FrameRest). later last (last_mark (λ u. mark_from c u off (map params gs)) t)) (ap (λ (x : FrameRest). x ∷ drop (i + 1) fs) e ∙ sym (drop_more fs i f l))
    ∙ w

pub last_end : (c t off : ℕ) (fs : List FrameRest) (i : ℕ) (last : Option ℕ) → length fs ≤ i
    → later last (last_mark (λ u. mark_from c u off (map params (drop i fs))) t) ≡ last
unfolding mark_from
last_end c t off fs i last h =
    ap (λ gs. later last (last_mark (λ u. mark_from c u off (map params gs)) t)) (drop_all i fs h)
    ∙ ap (later last) (last_none t) ∙ later_none last

-- The marks of one run and of another one after it.
mark_append : (c u off : ℕ) (xs ys : List FrameParams) → mark_from c u off (xs ++ ys) ≡ (mark_from c u off xs || mark_from c u (off + cycle xs) ys)
unfolding mark_from cycle
mark_append c u off [] ys = rw add-zero
mark_append c u off (x ∷ xs) ys =
    ap (λ b. hits c u (off + x.deadline) || b) (mark_append c u (off + x.gap) xs ys)
    ∙ ap (λ n. hits c u (off + x.deadline) || (mark_from c u (off + x.gap) xs || mark_from c u n ys)) (add_assoc off x.gap (cycle xs))
    ∙ sym (or_assoc (hits c u (off + x.deadline)) (mark_from c u (off + x.gap) xs) (mark_from c u (off + (x.gap + cycle xs)) ys))

gaps_cycle : (fs : List FrameRest) → gaps fs ≡ cycle (map params fs)
unfolding cycle
gaps_cycle [] = refl
gaps_cycle (f ∷ fs) = ap (λ n. f.frame.gap + n) (gaps_cycle fs)

-- A circle cut at place k: the gaps of its parts, and their rests.
pub gaps_parts : (k : ℕ) (fs : List FrameRest) → gaps (take k fs) + gaps (drop k fs) ≡ gaps fs
gaps_parts k fs = omega (arith, gaps_sum (take k fs), gaps_sum (drop k fs), gaps_sum fs, sum_by-take-drop (λ (f : FrameRest). f.frame.gap) fs k)

-- The last mark of one run and of another one after it.
pub last_append : (c t off : ℕ) (xs ys : List FrameRest) → last_mark (λ u. mark_from c u off (map params (xs ++ ys))) t
    ≡ later (last_mark (λ u. mark_from c u off (map params xs)) t) (last_mark (λ u. mark_from c u (off + gaps xs) (map params ys)) t)
last_append c t off xs ys =
    ap (λ ps. last_mark (λ u. mark_from c u off ps) t) (map-append params xs ys)
    ∙ ap (λ (m : ℕ → Bool). last_mark m t) (fun_ext (λ u. mark_append c u off (map params xs) (map params ys)))
    ∙ last_either (λ u. mark_from c u off (map params xs)) (λ u. mark_from c u (off + cycle (map params xs)) (map params ys)) t
    ∙ ap (λ n. later (last_mark (λ u. mark_from c u off (map params xs)) t) (last_mark (λ u. mark_from c u (off + n) (map params ys)) t)) (sym (gaps_cycle xs))

later_comm : (a b : Option ℕ) → later a b ≡ later b a
later_comm None None = refl
later_comm None (Some b) = refl
later_comm (Some a) None = refl
later_comm (Some a) (Some b) = ap Some (omega arith)

-- The last mark of any of n sets of marks, taken in one after another.
pub last_fold : (g : ℕ → ℕ → Bool) (t n : ℕ) → fold later None (map (λ k. last_mark (g k) t) (range_with_len 0 n)) ≡ last_mark (λ u. any_of (λ k. g k u) n) t
unfolding any_of
last_fold g t zero = sym (last_none t)
last_fold g t (suc n) =
    fold_turn later None (λ k. last_mark (g k) t) n
    ∙ ap (λ o. later o (last_mark (g n) t)) (last_fold g t n)
    ∙ later_comm _ (last_mark (g n) t)
    ∙ sym (last_either (g n) (λ u. any_of (λ k. g k u) n) t)

-- The frames with their rests are still the same frames, whatever the rests.
params_written : (rest : FrameParams → ℕ) (fs : List Frame) → map params (map (with_rest rest) fs) ≡ map frame_params fs
params_written rest [] = refl
params_written rest (f ∷ fs) = ap (λ ps. frame_params f ∷ ps) (params_written rest fs)

pub gaps_written : (rest : FrameParams → ℕ) (fs : List Frame) → gaps (map (with_rest rest) fs) ≡ cycle (map frame_params fs)
gaps_written rest fs = gaps_cycle (map (with_rest rest) fs) ∙ ap cycle (params_written rest fs)

pub each_written : (c t : ℕ) (fs : List Frame) → EachRest c t (map (with_rest (λ f. (t - 1 - f.deadline) % c)) fs)
each_written c t fs = λ k d h. rw (get_or-map (with_rest (λ f. (t - 1 - f.deadline) % c)) fs k d.frame d (omega (arith, length-map fs (with_rest (λ f. (t - 1 - f.deadline) % c))))) refl

pub marks_written : (rest : FrameParams → ℕ) (t : ℕ) (fs : List Frame)
    → last_mark (λ u. any_of (λ k. mark_from (cycle (map frame_params fs)) u 0 (map params (circle_from k (map (with_rest rest) fs)))) (length (map (with_rest rest) fs))) t
    ≡ last_mark (train_amounts (map frame_params fs)).mark t
unfolding train_amounts
marks_written rest t fs =
    ap (λ (m : ℕ → Bool). last_mark m t) (fun_ext (λ u. ap₂ any_of
    (fun_ext (λ k. ap (mark_from (cycle (map frame_params fs)) u 0) (sym (circle_map params k (map (with_rest rest) fs)) ∙ ap (circle_from k) (params_written rest fs))))
    (length-map fs (with_rest rest) ∙ sym (length-map fs frame_params))))
