-- The work of a train from a tick on, where what each frame did before is counted for itself.
use Rattle.std.proofs.Common.{◌≡◌, ℕ, zero, suc, ◌+◌, ◌-◌, ◌*◌, ◌/◌, ◌^◌, ◌<◌, ◌≤◌, min, List, [], ◌∷◌, map, length, replicate, sym, refl, ap, ap₂, ◌∙◌, arith, add_assoc, mul-add}
use lib.ListN.{length-map}
use Rattle.std.specs.List.{sum_by, range_with_len}
use Rattle.std.proofs.lemmas.List.Sums.{sum_by-cons}
use Rattle.theory.specs.Rows.{uncut_row}
use Rattle.loads.specs.declared.frame.Frame.{Frame}
use Rattle.loads.specs.declared.train.rest.FrameRest.{FrameRest}
use Rattle.loads.specs.declared.train.rows.Counted.{Counted}
use Rattle.loads.specs.declared.train.rows.Counted.TheVariants.{Due, Ready}
use Rattle.loads.specs.Params.{FrameParams}
use Rattle.loads.specs.Making.{frame_params}
use Rattle.loads.specs.Train.{cycle, circle_from, largest_of, upto, sum_along}
use Rattle.loads.specs.TrainCircle.{largest_same}
use Rattle.loads.specs.TrainTally.{tally}
use Rattle.loads.specs.TrainRests.{counts}
use Rattle.loads.specs.TrainRows.{lag, since, EachSoon}
use Rattle.loads.proofs.PlaceRows.{row_is}
use Rattle.loads.proofs.Stepping.{upto_first}
use Rattle.loads.proofs.TrainSums.{with_rest, circle_map, cycle_sum}
use Rattle.loads.proofs.TrainRows.{sum_from}

-- Of the releases of a frame at tick o and after each c ticks, all but the last that counts by tick w.
upto_since : (c w t o a : ℕ) → 0 < c → o ≤ c → w ≤ t → upto c t (o + a) ≡ (w - a) / c + upto c t (o + since c w a)
upto_since c w t o a p h l =
    let n = (w - a) / c in
    let b : n * c ≤ w - a = omega arith in
    upto_first c t n (o + a) p (omega arith) ∙ ap (λ x. n + upto c t x) (add_assoc o a (n * c))

counts_since : (key : FrameParams → ℕ) (c w t o : ℕ) (fs : List Frame) → 0 < c → o + cycle (map frame_params fs) ≤ c → w ≤ t
    → sum_by (λ (f : Frame). f.cost * ((w - key (frame_params f)) / c)) fs + counts c t o (map (with_rest (λ f. since c w (key f))) fs) ≡ tally key c t o (map frame_params fs)
unfolding sum_along cycle
counts_since key c w t o [] p h l = refl
counts_since key c w t o (f ∷ fs) p h l =
    let k = key (frame_params f) in
    let s = sum_by-cons (λ (f : Frame). f.cost * ((w - key (frame_params f)) / c)) f fs in
    let u = ap (λ n. f.cost * n) (upto_since c w t o k p (omega arith) l) ∙ mul-add f.cost ((w - k) / c) (upto c t (o + since c w k)) in
    omega (arith, counts_since key c w t (o + f.gap) fs p (omega arith) l)

-- So the work of a circle is that of its rests, and those releases.
pub circle_since : (key : FrameParams → ℕ) (c w t k : ℕ) (fs : List Frame) → 0 < c → cycle (map frame_params fs) ≤ c → w ≤ t
    → sum_by (λ (f : Frame). f.cost * ((w - key (frame_params f)) / c)) fs + counts c t 0 (circle_from k (map (with_rest (λ f. since c w (key f))) fs)) ≡ tally key c t 0 (circle_from k (map frame_params fs))
circle_since key c w t k fs p h l =
    let a = ap (counts c t 0) (circle_map (with_rest (λ f. since c w (key f))) k fs) in
    let b = ap (tally key c t 0) (circle_map frame_params k fs) in
    let g = cycle_sum (circle_from k fs) ∙ sum_from (λ (f : Frame). f.gap) k fs ∙ sym (cycle_sum fs) in
    omega (arith, counts_since key c w t 0 (circle_from k fs) p (omega arith) l, sum_from (λ (f : Frame). f.cost * ((w - key (frame_params f)) / c)) k fs)

-- And so an uncut row of it, whose places are those of the rests.
pub row_since : (key : FrameParams → ℕ) (c w b from : ℕ) (fs : List Frame) (ls : List FrameRest) (xs : List ℕ) → 0 < c → c ≡ cycle (map frame_params fs) → w ≡ min from 100000000
    → ls ≡ map (with_rest (λ f. since c w (key f))) fs → b ≡ sum_by (λ (f : Frame). f.cost * ((w - key (frame_params f)) / c)) fs
    → xs ≡ map (λ i. min (largest_of (λ k. b + counts c (w + i) 0 (circle_from k ls)) (length ls)) (2 ^ 40)) (range_with_len 0 256)
    → xs ≡ uncut_row (λ t. largest_of (λ k. tally key (cycle (map frame_params fs)) t 0 (circle_from k (map frame_params fs))) (length (map frame_params fs))) from
row_since key c w b from fs ls xs p q m r s e =
    let n = ap length r ∙ length-map fs (with_rest (λ f. since c w (key f))) ∙ sym (length-map fs frame_params) in
    let most = λ (t : ℕ). largest_of (λ k. tally key (cycle (map frame_params fs)) t 0 (circle_from k (map frame_params fs))) in
    row_is (λ t. most t (length (map frame_params fs))) (λ i. min (largest_of (λ k. b + counts c (w + i) 0 (circle_from k ls)) (length ls)) (2 ^ 40)) from w xs m e
    (λ i h. ap (λ x. min x (2 ^ 40))
    (largest_same _ _ (length ls)
    (λ k _. ap₂ (λ x gs. x + counts c (w + i) 0 (circle_from k gs)) s r ∙ circle_since key c w (w + i) k fs p (omega arith) (omega arith) ∙ ap (λ y. tally key y (w + i) 0 (circle_from k (map frame_params fs))) q)
    ∙ ap (most (w + i)) n))

-- Each rest is within 100,000,000 ticks.
lag_most : (k : Counted) (f : Frame) → lag k (frame_params f) ≤ 100000000
lag_most Due f = f.deadline_range.1
lag_most Ready f = omega arith

pub soon_rests : (k : Counted) (c w : ℕ) (fs : List Frame) → w ≤ 100000000 → EachSoon (map (with_rest (λ f. since c w (lag k f))) fs)
soon_rests k c w [] h j d l = absurd (omega arith)
soon_rests k c w (f ∷ fs) h zero d l = omega (arith, lag_most k f)
soon_rests k c w (f ∷ fs) h (suc j) d l = soon_rests k c w fs h j d (omega arith)

-- Without frames an uncut row has no work.
pub row_none : (key : FrameParams → ℕ) (c from : ℕ) (fs : List FrameParams) → length fs ≡ 0 → replicate 256 0 ≡ uncut_row (λ t. largest_of (λ k. tally key c t 0 (circle_from k fs)) (length fs)) from
unfolding largest_of uncut_row
row_none key c from [] h = refl
row_none key c from (f ∷ fs) h = absurd (omega arith)
