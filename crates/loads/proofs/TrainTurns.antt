-- The work of a train a round later: each frame that has come to count counts once more.
use Rattle.std.proofs.Common.{◌≡◌, ℕ, zero, suc, ◌+◌, ◌-◌, ◌*◌, ◌<◌, ◌≤◌, inl, inr, cond, List, [], ◌∷◌, length, get_or, drop, refl, sym, ap, ap₂, ◌∙◌, arith, zero-add}
use Rattle.std.specs.Prelude.{nat_le}
use Rattle.std.proofs.lemmas.List.{drop_all, drop_more}
use Rattle.std.proofs.lemmas.List.Sums.{sum_by-cons}
use Rattle.std.proofs.lemmas.Bool.{le-leb, lt-leb}
use Rattle.theory.specs.Jobs.{All}
use Rattle.loads.specs.declared.train.rest.FrameRest.{FrameRest}
use Rattle.loads.specs.Train.{circle_from, largest_of, upto}
use Rattle.loads.specs.TrainCounts.{upto_step, upto_none}
use Rattle.loads.specs.TrainRanges.{all_from}
use Rattle.loads.specs.TrainRests.{gaps, counts}
use Rattle.loads.specs.TrainRows.{begun, Settled}
use Rattle.loads.proofs.Stepping.{upto_moved}
use Rattle.loads.proofs.TrainRows.{sum_from}
use Rattle.loads.proofs.TrainSums.{gaps_sum}

-- one more within c more ticks
upto_round : (c t a : ℕ) → 0 < c → a ≤ t + c → upto c (t + c) a ≡ 1 + upto c t a
upto_round c t a p h =
    let e : c + t ≡ t + c = omega arith in
    let d : c + a ≡ a + c = omega arith in
    let m : upto c (t + c) (a + c) ≡ upto c t a = ap₂ (upto c) (sym e) (sym d) ∙ upto_moved c c t a in
    upto_step c (t + c) a p ∙ rw (le-leb a (t + c) h) (ap (λ n. 1 + n) m)

-- A frame released at tick o.
frame_round : (c t u o : ℕ) (f : FrameRest) → 0 < c → o ≤ c → t + c ≤ u → Settled t u f
    → f.frame.cost * upto c (t + c) (o + f.rest) ≡ f.frame.cost * upto c t (o + f.rest) + cond (nat_le f.rest u) f.frame.cost 0
frame_round c t u o f p h l (inl b) =
    let r = ap (λ n. f.frame.cost * n) (upto_round c t (o + f.rest) p (omega arith)) in
    rw (le-leb f.rest u (omega arith)) (omega arith)
frame_round c t u o f p h l (inr b) =
    let x = ap (λ n. f.frame.cost * n) (upto_none c (t + c) (o + f.rest) (omega arith)) in
    let y = ap (λ n. f.frame.cost * n) (upto_none c t (o + f.rest) (omega arith)) in
    rw (lt-leb f.rest u b) (omega arith)

counts_round : (c t u o : ℕ) (fs : List FrameRest) → 0 < c → o + gaps fs ≤ c → t + c ≤ u → All (Settled t u) fs → counts c (t + c) o fs ≡ counts c t o fs + begun u fs
counts_round c t u o [] p h l a = refl
counts_round c t u o (f ∷ fs) p h l a =
    let x = frame_round c t u o f p (omega arith) l a.0 in
    let ih = counts_round c t u (o + f.frame.gap) fs p (omega arith) l a.1 in
    omega (arith, sum_by-cons (λ (g : FrameRest). cond (nat_le g.rest u) g.frame.cost 0) f fs)

-- The largest of numbers that are w more.
largest_plus : (g h : ℕ → ℕ) (w n : ℕ) → 0 < n → ((k : ℕ) → k < n → g k ≡ h k + w) → largest_of g n ≡ largest_of h n + w
unfolding largest_of
largest_plus g h w zero p e = absurd (omega arith)
largest_plus g h w (suc zero) p e = omega (arith, e 0 (omega arith))
largest_plus g h w (suc (suc n)) p e = omega (arith, e (suc n) (omega arith), largest_plus g h w (suc n) (omega arith) (λ k l. e k (omega arith)))

-- Settled by s, and so at each later tick.
settled_later : (s t u : ℕ) (fs : List FrameRest) → s ≤ t → All (Settled s u) fs → All (Settled t u) fs
settled_later s t u [] h a = tt
settled_later s t u (f ∷ fs) h a = (go a.0, settled_later s t u fs h a.1)
  where
    go : Settled s u f → Settled t u f
    go (inl b) = inl (omega arith)
    go (inr b) = inr b

-- The largest work at place i of a row is that a round before, and the same cost more each time.
pub place_round : (b c w s i : ℕ) (fs : List FrameRest) → 0 < c → gaps fs ≤ c → 0 < length fs → s + c ≤ i → i < 256 → All (Settled (w + s) (w + 255)) fs
    → largest_of (λ k. b + counts c (w + i) 0 (circle_from k fs)) (length fs) ≡ largest_of (λ k. b + counts c (w + (i - c)) 0 (circle_from k fs)) (length fs) + begun (w + 255) fs
place_round b c w s i fs p h m l r a =
    let e : w + i ≡ w + (i - c) + c = omega arith in
    largest_plus (λ k. b + counts c (w + i) 0 (circle_from k fs)) (λ k. b + counts c (w + (i - c)) 0 (circle_from k fs)) (begun (w + 255) fs) (length fs) m
    (λ k _.
    let x = ap (λ t. counts c t 0 (circle_from k fs)) e in
    let g = gaps_sum (circle_from k fs) ∙ sum_from (λ f. f.frame.gap) k fs ∙ sym (gaps_sum fs) in
    let y = counts_round c (w + (i - c)) (w + 255) 0 (circle_from k fs) p (omega arith) (omega arith)
    (all_from (Settled (w + (i - c)) (w + 255)) k fs (settled_later (w + s) (w + (i - c)) (w + 255) fs (omega arith) a)) in
    omega (arith, sum_from (λ f. cond (nat_le f.rest (w + 255)) f.frame.cost 0) k fs))

-- The first of the frames ahead.
pub settled_next : (t u : ℕ) (fs : List FrameRest) (i : ℕ) (f : FrameRest) → i < length fs → f ≡ get_or fs i f → Settled t u f → All (Settled t u) (drop (i + 1) fs) → All (Settled t u) (drop i fs)
settled_next t u fs i f h e s a = rw (drop_more fs i f h, ← e) (s, a)

pub begun_with : (u : ℕ) (fs : List FrameRest) (i : ℕ) (f : FrameRest) → i < length fs → f ≡ get_or fs i f → f.rest ≤ u → begun u (drop i fs) ≡ f.frame.cost + begun u (drop (i + 1) fs)
begun_with u fs i f h e l =
    let c = sum_by-cons (λ (g : FrameRest). cond (nat_le g.rest u) g.frame.cost 0) f (drop (i + 1) fs) in
    ap (begun u) (drop_more fs i f h ∙ ap (λ (x : FrameRest). x ∷ drop (i + 1) fs) (sym e)) ∙ rw (le-leb f.rest u l) at c

pub begun_without : (u : ℕ) (fs : List FrameRest) (i : ℕ) (f : FrameRest) → i < length fs → f ≡ get_or fs i f → u < f.rest → begun u (drop i fs) ≡ begun u (drop (i + 1) fs)
begun_without u fs i f h e l =
    let c = sum_by-cons (λ (g : FrameRest). cond (nat_le g.rest u) g.frame.cost 0) f (drop (i + 1) fs) in
    ap (begun u) (drop_more fs i f h ∙ ap (λ (x : FrameRest). x ∷ drop (i + 1) fs) (sym e)) ∙ (rw (lt-leb f.rest u l) at c) ∙ zero-add (begun u (drop (i + 1) fs))

-- No frame ahead.
pub settled_end : (t u : ℕ) (fs : List FrameRest) (i : ℕ) → length fs ≤ i → All (Settled t u) (drop i fs)
settled_end t u fs i h = rw (drop_all i fs h) tt

pub begun_end : (u : ℕ) (fs : List FrameRest) (i : ℕ) → length fs ≤ i → begun u (drop i fs) ≡ 0
begun_end u fs i h = ap (begun u) (drop_all i fs h)
