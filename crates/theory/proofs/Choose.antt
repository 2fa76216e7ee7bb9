-- What `first`, `earliest` and `pick` choose.
use Rattle.std.proofs.Common.{◌≡◌, ℕ, zero, suc, ◌<◌, ◌≤◌, Bool, true, false, cond, ◌&&◌, ltb, ◌⊎◌, List, length, get_or, refl, subst, inl, inr, arith}
use mathlib.Core.Option.{Option, some, none}
use Rattle.std.proofs.lemmas.Bool.{both_ways, cases_eq, ltb-true, ltb-false, leb-true, le-leb, lt-ltb, and_parts, and_from}
use Rattle.theory.specs.Jobs.{Job, job, work}
use Rattle.theory.specs.Dispatch.{first, earliest, is_inside, is_waiting, pick}
use Rattle.theory.proofs.Pieces.{inside_work}

-- What holds below n and at n holds below n + 1.
pub upto : (P : ℕ → Type 0) (n : ℕ) → ((k : ℕ) → k < n → P k) → P n → (k : ℕ) → k < suc n → P k
upto P n f p k h = go (cases_eq n k)
  where
    go : (n ≡ k) ⊎ (n ≡ k → ⊥) → P k
    go (inl e) = subst P e p
    go (inr d) = f k (omega arith)

-- What `first` says of the places below n: none passes the test, or place i does.
abbrev pub Firsts : (ℕ → Bool) → ℕ → Option ℕ → Type 0
Firsts test n none = (k : ℕ) → k < n → test k ≡ false
Firsts test n (some i) = (i < n) × (test i ≡ true)

pub first_is : (test : ℕ → Bool) (n : ℕ) → Firsts test n (first test n)
first_is test zero = λ k h. absurd (omega arith)
first_is test (suc n) = go (first test n) (test n) refl (first_is test n)
  where
    go : (o : Option ℕ) (b : Bool) → test n ≡ b → Firsts test n o → Firsts test (suc n) (elim o [ some i ↦ some i | none ↦ cond b (some n) none ])
    go (some i) b e ih = (omega arith, ih.1)
    go none true e ih = (omega arith, e)
    go none false e ih = upto (λ k. test k ≡ false) n ih e

-- What `earliest` says of them: none passes the test, or place i does and has the least key of those that do.
abbrev Earliests : (ℕ → Bool) → (ℕ → ℕ) → ℕ → Option ℕ → Type 0
Earliests test key n none = (k : ℕ) → k < n → test k ≡ false
Earliests test key n (some i) = (i < n) × (test i ≡ true) × ((k : ℕ) → k < n → test k ≡ true → key i ≤ key k)

earliest_is : (test : ℕ → Bool) (key : ℕ → ℕ) (n : ℕ) → Earliests test key n (earliest test key n)
earliest_is test key zero = λ k h. absurd (omega arith)
earliest_is test key (suc n) = go (earliest test key n) (test n) refl (earliest_is test key n)
  where
    Goal : Option ℕ → Bool → Type 0
    Goal o b = Earliests test key (suc n) (elim o [ some i ↦ cond (b && ltb (key n) (key i)) (some n) (some i) | none ↦ cond b (some n) none ])

    turn : (i : ℕ) (c : Bool) → ltb (key n) (key i) ≡ c → test n ≡ true → Earliests test key n (some i)
        → Earliests test key (suc n) (cond c (some n) (some i))
    turn i true f e ih =
        let h : key n < key i = ltb-true (key n) (key i) f in
        (omega arith, e, upto (λ k. test k ≡ true → key n ≤ key k) n (λ k b t. let g = ih.2 k b t in omega arith) (λ t. omega arith))
    turn i false f e ih =
        let h : key i ≤ key n = ltb-false (key n) (key i) f in
        (omega arith, ih.1, upto (λ k. test k ≡ true → key i ≤ key k) n ih.2 (λ t. h))

    go : (o : Option ℕ) (b : Bool) → test n ≡ b → Earliests test key n o → Goal o b
    go (some i) true e ih = turn i (ltb (key n) (key i)) refl e ih
    go (some i) false e ih = (omega arith, ih.1, upto (λ k. test k ≡ true → key i ≤ key k) n ih.2 (λ t. absurd (both_ways (test n) e t)))
    go none true e ih = (omega arith, e, upto (λ k. test k ≡ true → key n ≤ key k) n (λ k b t. absurd (both_ways (test k) (ih k b) t)) (λ t. omega arith))
    go none false e ih = upto (λ k. test k ≡ false) n ih e

-- Job k is released by tick t and unfinished, with `ss` served so far.
abbrev pub Waits : ℕ → List Job → List ℕ → ℕ → Type 0
Waits t js ss k = ((job js k).release ≤ t) × (get_or ss k 0 < work (job js k))

-- What a pick in tick t says: no job is inside a piece and none waits; or job i is unfinished, and inside a piece, or
-- released while no job is inside a piece and no job that waits has an earlier deadline.
abbrev pub Picks : ℕ → List Job → List ℕ → Option ℕ → Type 0
Picks t js ss none = ((k : ℕ) → k < length js → is_inside js ss k ≡ false) × ((k : ℕ) → k < length js → Waits t js ss k → ⊥)
Picks t js ss (some i) = (i < length js) × (get_or ss i 0 < work (job js i))
    × ((is_inside js ss i ≡ true)
    ⊎ (((job js i).release ≤ t)
    × ((k : ℕ) → k < length js → is_inside js ss k ≡ false)
    × ((k : ℕ) → k < length js → Waits t js ss k → (job js i).deadline ≤ (job js k).deadline)))

pub pick_is : (t : ℕ) (js : List Job) (ss : List ℕ) → Picks t js ss (pick t js ss)
pick_is t js ss = go (first (is_inside js ss) (length js)) (first_is (is_inside js ss) (length js))
  where
    waits : (k : ℕ) → Waits t js ss k → is_waiting t js ss k ≡ true
    waits k h = and_from _ _ (le-leb _ _ h.0) (lt-ltb _ _ h.1)

    late : (o : Option ℕ) → Earliests (is_waiting t js ss) (λ i. (job js i).deadline) (length js) o → ((k : ℕ) → k < length js → is_inside js ss k ≡ false) → Picks t js ss o
    late none e f = (f, λ k h w. both_ways (is_waiting t js ss k) (e k h) (waits k w))
    late (some i) e f =
        let p = and_parts _ _ e.1 in
        (e.0, ltb-true _ _ p.1, inr (leb-true _ _ p.0, f, λ k h w. e.2 k h (waits k w)))

    go : (o : Option ℕ) → Firsts (is_inside js ss) (length js) o
        → Picks t js ss (elim o [ some i ↦ some i | none ↦ earliest (is_waiting t js ss) (λ i. (job js i).deadline) (length js) ])
    go (some i) h = (h.0, inside_work (job js i).pieces (get_or ss i 0) h.1, inl h.1)
    go none h = late (earliest (is_waiting t js ss) (λ i. (job js i).deadline) (length js)) (earliest_is (is_waiting t js ss) (λ i. (job js i).deadline) (length js)) h
