-- A ramp train keeps the laws of a load.
use Rattle.std.specs.Prelude.{◌≡◌, ℕ, zero, suc, ◌+◌, ◌<◌, ◌≤◌, true, false, cond, ◌⊎◌, List, [], ◌∷◌, length, nat_le, refl}
use Rattle.std.proofs.Common.{sym, ap, ◌∙◌, subst, inl, inr, arith}
use Rattle.std.proofs.lemmas.Bool.{cases_lt, cases_Bool, le-leb, lt-leb, leb-true, and_parts, and_left, cond-true, cond-false}
use Rattle.theory.specs.Jobs.{Job, work, All, Among, falls_in, work_in}
use Rattle.theory.specs.Meaning.{Rules, Laws}
use Rattle.loads.specs.Params.{FrameParams, FrameRanges}
use Rattle.loads.specs.Train.{cycle, circle_from, largest_of, ready_from, mark_from, OfFrame, FromTick, InTurn, train_amounts, train_meaning}
use Rattle.loads.specs.TrainRanges.{all_from}
use Rattle.loads.specs.TrainCircle.{turn, turns, cycle_turn, cycle_from, cycle_pos, reach, largest_at, largest_le, largest_mono, largest_same, any_none, none_any}
use Rattle.loads.specs.TrainTally.{tally, falls, comes, ready_zero, ready_tally, tally_mono, tally_step, tally_zero, mark_zero_from, tally_still, tally_shift}

sooner : (q r : ℕ) (js : List Job) → q ≤ r → FromTick r js → FromTick q js
sooner q r [] h k = tt
sooner q r (j ∷ js) h k = omega arith

-- one job's part
part : (u t off : ℕ) (f : FrameParams) (j : Job) → OfFrame f j → u + off ≤ j.release
    → cond (falls_in u (u + t) j) (work j) 0 ≤ cond (nat_le (off + f.deadline) t) f.cost 0
part u t off f j o h = go (cases_Bool (falls_in u (u + t) j))
  where
    go : (falls_in u (u + t) j ≡ true) ⊎ (falls_in u (u + t) j ≡ false) → cond (falls_in u (u + t) j) (work j) 0 ≤ cond (nat_le (off + f.deadline) t) f.cost 0
    go (inl e) =
        let d = leb-true j.deadline (u + t) (and_parts (nat_le u j.release) (nat_le j.deadline (u + t)) e).1 in
        let l = cond-true (nat_le (off + f.deadline) t) f.cost 0 (le-leb (off + f.deadline) t (omega arith)) in
        let m = cond-true (falls_in u (u + t) j) (work j) 0 e in
        omega arith
    go (inr e) = let m = cond-false (falls_in u (u + t) j) (work j) 0 e in omega arith

-- jobs in turn, the first released `off` ticks after u or later
in_run : (c u t off : ℕ) (fs : List FrameParams) (js : List Job) → c ≡ cycle fs → 0 < c → InTurn fs js → FromTick (u + off) js
    → work_in u (u + t) js ≤ tally falls c t off fs
in_run c u t off fs [] e p i k = omega arith
in_run c u t off [] (j ∷ js) e p i k = absurd i
in_run c u t off (f ∷ fs) (j ∷ js) e p i k =
    let ih = in_run c u t (off + f.gap) (turn (f ∷ fs)) js (e ∙ sym (cycle_turn (f ∷ fs))) p i.2 (sooner (u + (off + f.gap)) (j.release + f.gap) js (omega arith) i.1) in
    let x = part u t off f j i.0 k in
    let s = tally_step falls c t off f fs e p in
    omega arith

-- jobs in turn: those released before u have no part
in_turn : (c u t b : ℕ) (fs : List FrameParams) (js : List Job) → c ≡ cycle fs → 0 < c → InTurn fs js → ((m : ℕ) → tally falls c t 0 (turns m fs) ≤ b)
    → work_in u (u + t) js ≤ b
in_turn c u t b fs [] e p i l = omega arith
in_turn c u t b [] (j ∷ js) e p i l = absurd i
in_turn c u t b (f ∷ fs) (j ∷ js) e p i l =
    go (cases_lt j.release u) (in_turn c u t b (turn (f ∷ fs)) js (e ∙ sym (cycle_turn (f ∷ fs))) p i.2 (λ m. l (suc m)))
  where
    go : (j.release < u) ⊎ (u ≤ j.release) → work_in u (u + t) js ≤ b → work_in u (u + t) (j ∷ js) ≤ b
    go (inl h) ih =
        let m = cond-false (falls_in u (u + t) j) (work j) 0 (and_left (nat_le u j.release) (nat_le j.deadline (u + t)) (lt-leb u j.release h)) in
        omega arith
    go (inr h) ih = let r = in_run c u t 0 (f ∷ fs) (j ∷ js) e p i (omega arith) in omega (arith, l 0)

-- the largest over the frames that the circle can begin with, in terms of `tally`
due_is : (fs : List FrameParams) (t : ℕ) → (train_amounts fs).due t ≡ largest_of (λ k. tally falls (cycle fs) t 0 (circle_from k fs)) (length fs)
unfolding train_amounts
due_is fs t = refl

pub ready_is : (f : FrameParams) (fs : List FrameParams) → FrameRanges f → (s : ℕ) → (train_amounts (f ∷ fs)).ready (suc s) ≡ largest_of (λ k. tally comes (cycle (f ∷ fs)) s 0 (circle_from k (f ∷ fs))) (length (f ∷ fs))
unfolding train_amounts
ready_is f fs r s = largest_same (λ k. ready_from (cycle (f ∷ fs)) (suc s) 0 (circle_from k (f ∷ fs))) (λ k. tally comes (cycle (f ∷ fs)) s 0 (circle_from k (f ∷ fs))) (length (f ∷ fs))
    (λ k h. ready_tally (cycle (f ∷ fs)) s 0 (circle_from k (f ∷ fs)) (cycle_pos f fs r))

-- due(t) bounds the run of t ticks from any frame
due_bounds : (f : FrameParams) (fs : List FrameParams) (t k m : ℕ) → tally falls (cycle (f ∷ fs)) t 0 (turns m (circle_from k (f ∷ fs))) ≤ (train_amounts (f ∷ fs)).due t
due_bounds f fs t k m = go (reach f fs m k)
  where
    go : (j : ℕ) × (j < length (f ∷ fs)) × (turns m (circle_from k (f ∷ fs)) ≡ circle_from j (f ∷ fs)) → tally falls (cycle (f ∷ fs)) t 0 (turns m (circle_from k (f ∷ fs))) ≤ (train_amounts (f ∷ fs)).due t
    go (j, h, e) =
        let q = ap (tally falls (cycle (f ∷ fs)) t 0) e in
        let l = largest_at (λ k. tally falls (cycle (f ∷ fs)) t 0 (circle_from k (f ∷ fs))) (length (f ∷ fs)) j h in
        omega (arith, due_is (f ∷ fs) t)

law_zero : (fs : List FrameParams) → All FrameRanges fs → (train_amounts fs).due 0 ≡ 0
law_zero fs r =
    let l = largest_le (λ k. tally falls (cycle fs) 0 0 (circle_from k fs)) (length fs) 0 (λ k h. omega (arith, tally_zero (cycle fs) 0 (circle_from k fs) (all_from FrameRanges k fs r))) in
    omega (arith, due_is fs 0)

empty_due : (t : ℕ) → (train_amounts []).due t ≡ 0
unfolding train_amounts largest_of
empty_due t = refl

due_mono : (fs : List FrameParams) → All FrameRanges fs → (s t : ℕ) → s ≤ t → (train_amounts fs).due s ≤ (train_amounts fs).due t
due_mono [] r s t h = omega (arith, empty_due s)
due_mono (f ∷ fs) r s t h =
    let l = largest_mono (λ k. tally falls (cycle (f ∷ fs)) s 0 (circle_from k (f ∷ fs))) (λ k. tally falls (cycle (f ∷ fs)) t 0 (circle_from k (f ∷ fs))) (length (f ∷ fs))
    (λ k _. tally_mono falls (cycle (f ∷ fs)) s 0 t 0 (circle_from k (f ∷ fs)) (cycle_pos f fs r.0) (omega arith) (omega arith)) in
    omega (arith, due_is (f ∷ fs) s, due_is (f ∷ fs) t)

pub ready_none : (fs : List FrameParams) → (train_amounts fs).ready 0 ≡ 0
unfolding train_amounts
ready_none fs =
    let l = largest_le (λ k. ready_from (cycle fs) 0 0 (circle_from k fs)) (length fs) 0 (λ k h. omega (arith, ready_zero (cycle fs) 0 (circle_from k fs))) in
    omega arith

empty_ready : (s : ℕ) → (train_amounts []).ready s ≡ 0
unfolding train_amounts largest_of
empty_ready s = refl

ready_mono : (fs : List FrameParams) → All FrameRanges fs → (s t : ℕ) → s ≤ t → (train_amounts fs).ready s ≤ (train_amounts fs).ready t
ready_mono [] r s t h = omega (arith, empty_ready s)
ready_mono (f ∷ fs) r zero t h = omega (arith, ready_none (f ∷ fs))
ready_mono (f ∷ fs) r (suc s) zero h = absurd (omega arith)
ready_mono (f ∷ fs) r (suc s) (suc t) h =
    let l = largest_mono (λ k. tally comes (cycle (f ∷ fs)) s 0 (circle_from k (f ∷ fs))) (λ k. tally comes (cycle (f ∷ fs)) t 0 (circle_from k (f ∷ fs))) (length (f ∷ fs))
    (λ k _. tally_mono comes (cycle (f ∷ fs)) s 0 t 0 (circle_from k (f ∷ fs)) (cycle_pos f fs r.0) (omega arith) (omega arith)) in
    omega (arith, ready_is f fs r.0 s, ready_is f fs r.0 t)

mark_zero : (fs : List FrameParams) → All FrameRanges fs → (train_amounts fs).mark 0 ≡ false
unfolding train_amounts
mark_zero fs r = none_any (λ k. mark_from (cycle fs) 0 0 (circle_from k fs)) (length fs) (λ k h. mark_zero_from (cycle fs) 0 (circle_from k fs) (all_from FrameRanges k fs r))

still : (fs : List FrameParams) → All FrameRanges fs → (t : ℕ) → (train_amounts fs).mark (t + 1) ≡ false → (train_amounts fs).due (t + 1) ≡ (train_amounts fs).due t
unfolding train_amounts largest_of
still [] r t m = refl
still (f ∷ fs) r t m =
    let n = any_none (λ k. mark_from (cycle (f ∷ fs)) (t + 1) 0 (circle_from k (f ∷ fs))) (length (f ∷ fs)) m in
    let l = largest_same (λ k. tally falls (cycle (f ∷ fs)) (t + 1) 0 (circle_from k (f ∷ fs))) (λ k. tally falls (cycle (f ∷ fs)) t 0 (circle_from k (f ∷ fs))) (length (f ∷ fs))
    (λ k h. tally_still (cycle (f ∷ fs)) t 0 (circle_from k (f ∷ fs)) (cycle_pos f fs r.0) (n k h)) in
    due_is (f ∷ fs) (t + 1) ∙ l ∙ sym (due_is (f ∷ fs) t)

shift : (fs : List FrameParams) → All FrameRanges fs → (s t : ℕ) → 1 ≤ s → (train_amounts fs).due (s + t) + 0 ≤ (train_amounts fs).ready s + (train_amounts fs).due t
shift [] r s t h = omega (arith, empty_due (s + t))
shift (f ∷ fs) r zero t h = absurd (omega arith)
shift (f ∷ fs) r (suc s) t h =
    let c = cycle (f ∷ fs) in
    let b = (train_amounts (f ∷ fs)).due t in
    let p = cycle_pos f fs r.0 in
    let l = largest_le (λ k. tally falls c (suc s + t) 0 (circle_from k (f ∷ fs))) (length (f ∷ fs)) ((train_amounts (f ∷ fs)).ready (suc s) + b)
    (λ k k-in.
    let x = tally_shift c s t b (suc s) 0 (circle_from k (f ∷ fs)) (all_from FrameRanges k (f ∷ fs) r) (sym (cycle_from k (f ∷ fs))) p (omega arith) (due_bounds f fs t k) in
    let y = largest_at (λ k. tally comes c s 0 (circle_from k (f ∷ fs))) (length (f ∷ fs)) k k-in in
    omega (arith, ready_is f fs r.0 s)) in
    omega (arith, due_is (f ∷ fs) (suc s + t))

rules : (fs : List FrameParams) → All FrameRanges fs → Rules (train_amounts fs)
unfolding train_amounts
rules fs r = record {
  due_zero = law_zero fs r;
  due_mono = due_mono fs r;
  ready_mono = ready_mono fs r;
  mark_zero = mark_zero fs r;
  due_still = still fs r;
  held_still = λ t m. refl;
  sum_mono = λ s t h. let d = due_mono fs r s t h in omega arith;
  shift = shift fs r;
}

-- without frames there is no job
nobody : (k : ℕ) (js : List Job) → InTurn (circle_from k []) js → js ≡ []
unfolding circle_from
nobody k [] i = refl
nobody zero (j ∷ js) i = absurd i
nobody (suc k) (j ∷ js) i = absurd i

within_from : (fs : List FrameParams) → All FrameRanges fs → (js : List Job) (k : ℕ) → InTurn (circle_from k fs) js → (u t : ℕ) → work_in u (u + t) js ≤ (train_amounts fs).due t
within_from [] r js k i u t = let q = ap (work_in u (u + t)) (nobody k js i) in omega arith
within_from (f ∷ fs) r js k i u t =
    in_turn (cycle (f ∷ fs)) u t ((train_amounts (f ∷ fs)).due t) (circle_from k (f ∷ fs)) js (sym (cycle_from k (f ∷ fs))) (cycle_pos f fs r.0) i (due_bounds f fs t k)

ones : (z : ℕ) (ps : List ℕ) → All (λ p. p ≡ 1) ps → Among z ps → z ≡ 1
ones z [] h a = absurd a
ones z (p ∷ ps) h (inl e) = omega arith
ones z (p ∷ ps) h (inr a) = ones z ps h.1 a

-- every piece is 1 tick
short : (fs : List FrameParams) (js : List Job) (j : Job) (z : ℕ) → InTurn fs js → Among j js → Among z j.pieces → z ≡ 1
short fs [] j z i a b = absurd a
short [] (k ∷ js) j z i a b = absurd i
short (f ∷ fs) (k ∷ js) j z i (inl e) b = ones z k.pieces i.0.3 (subst (λ (x : Job). Among z x.pieces) e b)
short (f ∷ fs) (k ∷ js) j z i (inr a) b = short (turn (f ∷ fs)) js j z i.2 a b

pub train_laws : (fs : List FrameParams) → All FrameRanges fs → Laws (train_meaning fs)
train_laws fs r = record {
  rules = rules fs r;
  within = λ js p i. within_from fs r js i.0 i.1;
  beside_held = λ js p i u t z k a q d b two. absurd (let one = short (circle_from i.0 fs) js k z i.1 a b in omega arith);
}
