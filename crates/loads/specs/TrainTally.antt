-- The work of frames that come again and again, counted by a key of each frame: its deadline for what is due,
-- and 0 for what is ready.
use Rattle.std.specs.Prelude.{◌≡◌, ℕ, zero, suc, ◌+◌, ◌-◌, ◌*◌, ◌%◌, ◌<◌, ◌≤◌, Bool, true, false, cond, ◌⊎◌, List, [], ◌∷◌, ◌++◌, ◌==◌, nat_le, refl}
use Rattle.std.proofs.Common.{sym, ap, ap₂, ◌∙◌, inl, inr, mul-le-mul_left, mul-add, add-zero, zero-add, add_assoc, arith}
use Rattle.std.proofs.lemmas.Bool.{cases_lt, le-leb, lt-leb, or_parts, or_from, and_left, cond-true}
use Rattle.theory.specs.Jobs.{All}
use Rattle.loads.specs.Params.{FrameParams, FrameRanges}
use Rattle.loads.specs.Train.{cycle, upto, below, hits, sum_along, ready_from, mark_from}
use Rattle.loads.specs.TrainCounts.{upto_step, upto_mono, upto_none, upto_still, below_zero, below_upto}
use Rattle.loads.specs.TrainRanges.{all_turned}
use Rattle.loads.specs.TrainCircle.{turn, turns, cycle_turn}

abbrev pub tally : (FrameParams → ℕ) → ℕ → ℕ → ℕ → List FrameParams → ℕ
tally key c t off fs = sum_along (λ f o. f.cost * upto c t (o + key f)) off fs

abbrev pub falls : FrameParams → ℕ
falls f = f.deadline

abbrev pub comes : FrameParams → ℕ
comes f = 0

pub ready_zero : (c off : ℕ) (fs : List FrameParams) → ready_from c 0 off fs ≡ 0
unfolding sum_along
ready_zero c off [] = refl
ready_zero c off (f ∷ fs) = let ih = ready_zero c (off + f.gap) fs in let q = ap (λ n. f.cost * n) (below_zero c off) in omega arith

pub ready_tally : (c s off : ℕ) (fs : List FrameParams) → 0 < c → ready_from c (suc s) off fs ≡ tally comes c s off fs
unfolding sum_along
ready_tally c s off [] p = refl
ready_tally c s off (f ∷ fs) p =
    let q : below c (suc s) off ≡ upto c s (off + 0) = below_upto c s off p ∙ ap (upto c s) (sym (add-zero off)) in
    ap₂ (λ m n. f.cost * m + n) q (ready_tally c s (off + f.gap) fs p)

-- released earlier, or looked at later: no less
pub tally_mono : (key : FrameParams → ℕ) (c s a t b : ℕ) (fs : List FrameParams) → 0 < c → s + b ≤ t + a → b ≤ a → tally key c s a fs ≤ tally key c t b fs
unfolding sum_along
tally_mono key c s a t b [] p h l = omega arith
tally_mono key c s a t b (f ∷ fs) p h l =
    let ih = tally_mono key c s (a + f.gap) t (b + f.gap) fs p (omega arith) (omega arith) in
    let u = mul-le-mul_left f.cost (upto_mono c s (a + key f) t (b + key f) p (omega arith) (omega arith)) in
    omega arith

pub sum_append : (g : FrameParams → ℕ → ℕ) (off : ℕ) (xs ys : List FrameParams) → sum_along g off (xs ++ ys) ≡ sum_along g off xs + sum_along g (off + cycle xs) ys
unfolding sum_along cycle
sum_append g off [] ys = rw add-zero (sym (zero-add (sum_along g off ys)))
sum_append g off (x ∷ xs) ys =
    let ih = sum_append g (off + x.gap) xs ys in
    let q = ap (λ n. sum_along g n ys) (add_assoc off x.gap (cycle xs)) in
    omega arith

pub times_cond : (b : Bool) (n : ℕ) → n * cond b 1 0 ≡ cond b n 0
times_cond true n = omega arith
times_cond false n = omega arith

pub cond_le : (b : Bool) (n : ℕ) → cond b n 0 ≤ n
cond_le true n = omega arith
cond_le false n = omega arith

-- the first job, and the run that goes on from the next frame
pub tally_step : (key : FrameParams → ℕ) (c t off : ℕ) (f : FrameParams) (fs : List FrameParams) → c ≡ cycle (f ∷ fs) → 0 < c
    → tally key c t off (f ∷ fs) ≡ cond (nat_le (off + key f) t) f.cost 0 + tally key c t (off + f.gap) (turn (f ∷ fs))
unfolding sum_along cycle
tally_step key c t off f fs e p =
    let a = sum_append (λ f o. f.cost * upto c t (o + key f)) (off + f.gap) fs (f ∷ []) in
    let b : off + f.gap + cycle fs + key f ≡ off + key f + c = omega arith in
    let s = upto_step c t (off + key f) p ∙ ap (λ n. cond (nat_le (off + key f) t) 1 0 + upto c t n) (sym b) in
    let m = ap (λ n. f.cost * n) s ∙ mul-add f.cost (cond (nat_le (off + key f) t) 1 0) (upto c t (off + f.gap + cycle fs + key f)) in
    let k = times_cond (nat_le (off + key f) t) f.cost in
    omega arith

-- nothing is due at tick 0
pub tally_zero : (c off : ℕ) (fs : List FrameParams) → All FrameRanges fs → tally falls c 0 off fs ≡ 0
unfolding sum_along
tally_zero c off [] a = refl
tally_zero c off (f ∷ fs) a =
    let ih = tally_zero c (off + f.gap) fs a.1 in
    let q = ap (λ n. f.cost * n) (upto_none c 0 (off + f.deadline) (omega (arith, a.0.deadline_least))) in
    omega arith

-- and no mark is there
pub mark_zero_from : (c off : ℕ) (fs : List FrameParams) → All FrameRanges fs → mark_from c 0 off fs ≡ false
unfolding mark_from
mark_zero_from c off [] a = refl
mark_zero_from c off (f ∷ fs) a =
    or_from (hits c 0 (off + f.deadline)) (mark_from c 0 (off + f.gap) fs)
    (and_left (nat_le (off + f.deadline) 0) ((0 - (off + f.deadline)) % c == 0) (lt-leb (off + f.deadline) 0 (omega (arith, a.0.deadline_least))))
    (mark_zero_from c (off + f.gap) fs a.1)

pub tally_still : (c t off : ℕ) (fs : List FrameParams) → 0 < c → mark_from c (t + 1) off fs ≡ false → tally falls c (t + 1) off fs ≡ tally falls c t off fs
unfolding sum_along mark_from
tally_still c t off [] p m = refl
tally_still c t off (f ∷ fs) p m =
    let h = or_parts (hits c (t + 1) (off + f.deadline)) (mark_from c (t + 1) (off + f.gap) fs) m in
    ap₂ (λ x y. f.cost * x + y) (upto_still c t (off + f.deadline) p h.0) (tally_still c t (off + f.gap) fs p h.1)

tally_none : (key : FrameParams → ℕ) (c t off : ℕ) → tally key c t off [] ≡ 0
unfolding sum_along
tally_none key c t off = refl

-- A run to s + t is a run to s, and from the first release at s or later a run of t ticks from some frame.
pub tally_shift : (c s t b n off : ℕ) (fs : List FrameParams) → All FrameRanges fs → c ≡ cycle fs → 0 < c → suc s ≤ off + n
    → ((m : ℕ) → tally falls c t 0 (turns m fs) ≤ b) → tally falls c (suc s + t) off fs ≤ tally comes c s off fs + b
tally_shift c s t b zero off fs a e p h l =
    let x = tally_mono falls c (suc s + t) off t 0 fs p (omega arith) (omega arith) in
    omega (arith, l 0)
tally_shift c s t b (suc n) off [] a e p h l = omega (arith, tally_none falls c (suc s + t) off)
tally_shift c s t b (suc n) off (f ∷ fs) a e p h l =
    go (cases_lt s off) (tally_shift c s t b n (off + f.gap) (turn (f ∷ fs)) (all_turned FrameRanges f fs a))
  where
    go : (s < off) ⊎ (off ≤ s)
        → (c ≡ cycle (turn (f ∷ fs)) → 0 < c → suc s ≤ off + f.gap + n → ((m : ℕ) → tally falls c t 0 (turns m (turn (f ∷ fs))) ≤ b)
        → tally falls c (suc s + t) (off + f.gap) (turn (f ∷ fs)) ≤ tally comes c s (off + f.gap) (turn (f ∷ fs)) + b)
        → tally falls c (suc s + t) off (f ∷ fs) ≤ tally comes c s off (f ∷ fs) + b
    go (inl k) ih =
        let x = tally_mono falls c (suc s + t) off t 0 (f ∷ fs) p (omega arith) (omega arith) in
        omega (arith, l 0)
    go (inr k) ih =
        let i = ih (e ∙ sym (cycle_turn (f ∷ fs))) p (omega (arith, a.0.gap_least)) (λ m. l (suc m)) in
        let x = tally_step falls c (suc s + t) off f fs e p in
        let y = tally_step comes c s off f fs e p in
        let y' : cond (nat_le (off + 0) s) f.cost 0 ≡ f.cost = cond-true (nat_le (off + 0) s) f.cost 0 (le-leb (off + 0) s (omega arith)) in
        let x' = cond_le (nat_le (off + f.deadline) (suc s + t)) f.cost in
        omega arith
