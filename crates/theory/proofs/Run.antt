-- The dispatcher tick by tick: which job is served, and that at most one is inside a piece.
use Rattle.std.proofs.Common.{◌≡◌, ℕ, zero, suc, ◌+◌, ◌<◌, ◌≤◌, true, false, ◌⊎◌, List, length, get_or, replicate, sym, refl, ap, ◌∙◌, subst, inl, inr, arith, length-set}
use mathlib.Core.Option.{Option, some, none}
use lib.ListN.{length-replicate, get_or-replicate}
use Rattle.std.proofs.lemmas.List.{get_or-set_same, get_or-set_other, get_or_past}
use Rattle.std.proofs.lemmas.Bool.{both_ways, cases_eq, cases_lt}
use Rattle.theory.specs.Jobs.{Job, job, work, no_job}
use Rattle.theory.specs.Dispatch.{inside, is_inside, pick, serve, served}
use Rattle.theory.proofs.Pieces.{inside_zero}
use Rattle.theory.proofs.Choose.{Picks, pick_is}

-- the ticks served to job i after t ticks
abbrev pub ticks : List Job → ℕ → ℕ → ℕ
ticks js t i = get_or (served js t) i 0

-- the job that runs in tick t
abbrev pub picked : List Job → ℕ → Option ℕ
picked js t = pick t js (served js t)

-- a job past the end is never inside a piece
pub in_range : (js : List Job) (ss : List ℕ) (k : ℕ) → is_inside js ss k ≡ true → k < length js
in_range js ss k e = go (cases_lt k (length js))
  where
    go : (k < length js) ⊎ (length js ≤ k) → k < length js
    go (inl h) = h
    go (inr h) =
        let n : is_inside js ss k ≡ false = ap (λ (j : Job). inside j.pieces (get_or ss k 0)) (get_or_past js k no_job h) in
        absurd (both_ways (is_inside js ss k) n e)

pub served_length : (js : List Job) (t : ℕ) → length (served js t) ≡ length js
served_length js zero = length-replicate (length js) 0
served_length js (suc t) = go (picked js t) ∙ served_length js t
  where
    go : (o : Option ℕ) → length (serve (served js t) o) ≡ length (served js t)
    go none = refl
    go (some i) = length-set (served js t) i (get_or (served js t) i 0 + 1)

zeros : (n i : ℕ) → get_or (replicate {A = ℕ} n 0) i 0 ≡ 0
zeros n i = go (cases_lt i n)
  where
    go : (i < n) ⊎ (n ≤ i) → get_or (replicate {A = ℕ} n 0) i 0 ≡ 0
    go (inl h) = get_or-replicate {A = ℕ} n i 0 0 h
    go (inr h) = get_or_past (replicate {A = ℕ} n 0) i 0 (let q = length-replicate {A = ℕ} n 0 in omega arith)

-- what one tick does to job k
abbrev pub Moves : List Job → ℕ → ℕ → Type 0
Moves js t k = (ticks js (suc t) k ≡ ticks js t k) ⊎ ((picked js t ≡ some k) × (ticks js (suc t) k ≡ ticks js t k + 1))

serve_other : (ss : List ℕ) (i k : ℕ) → (k ≡ i → ⊥) → get_or (serve ss (some i)) k 0 ≡ get_or ss k 0
serve_other ss i k d = get_or-set_other ss i k (get_or ss i 0 + 1) 0 d

serve_same : (ss : List ℕ) (i : ℕ) → i < length ss → get_or (serve ss (some i)) i 0 ≡ get_or ss i 0 + 1
serve_same ss i h = get_or-set_same ss i (get_or ss i 0 + 1) 0 h

pub after : (js : List Job) (t : ℕ) (o : Option ℕ) → picked js t ≡ o → served js (suc t) ≡ serve (served js t) o
after js t o e = ap (serve (served js t)) e

pub moves : (js : List Job) (t k : ℕ) → Moves js t k
moves js t k = go (picked js t) refl (pick_is t js (served js t))
  where
    here : (i : ℕ) → picked js t ≡ some i → i < length js → (k ≡ i) ⊎ (k ≡ i → ⊥) → Moves js t k
    here i e h (inl q) =
        let h' : k < length (served js t) = let l = served_length js t in omega arith in
        let e' : picked js t ≡ some k = e ∙ ap {B = Option ℕ} some (sym q) in
        inr (e', ap (λ (ss : List ℕ). get_or ss k 0) (after js t (some k) e') ∙ serve_same (served js t) k h')
    here i e h (inr d) = inl (ap (λ (ss : List ℕ). get_or ss k 0) (after js t (some i) e) ∙ serve_other (served js t) i k d)

    go : (o : Option ℕ) → picked js t ≡ o → Picks t js (served js t) o → Moves js t k
    go none e p = inl (ap (λ (ss : List ℕ). get_or ss k 0) (after js t none e))
    go (some i) e p = here i e p.0 (cases_eq k i)

pub picks : (js : List Job) (t : ℕ) (o : Option ℕ) → picked js t ≡ o → Picks t js (served js t) o
picks js t o e = subst (Picks t js (served js t)) e (pick_is t js (served js t))

pub grows : (js : List Job) (t k : ℕ) → ticks js t k ≤ ticks js (suc t) k
grows js t k = go (moves js t k)
  where
    go : Moves js t k → ticks js t k ≤ ticks js (suc t) k
    go (inl e) = omega arith
    go (inr e) = omega arith

-- no job is served more than its work
pub within_work : (js : List Job) (t k : ℕ) → ticks js t k ≤ work (job js k)
within_work js zero k = let z = zeros (length js) k in omega arith
within_work js (suc t) k = go (moves js t k) (within_work js t k)
  where
    go : Moves js t k
        → ticks js t k ≤ work (job js k) → ticks js (suc t) k ≤ work (job js k)
    go (inl e) ih = omega arith
    go (inr e) ih = let p = (picks js t (some k) e.0).1 in omega arith

-- a job inside a piece has been served
pub inside_pos : (js : List Job) (ss : List ℕ) (k : ℕ) → is_inside js ss k ≡ true → 0 < get_or ss k 0
inside_pos js ss k e = go (cases_lt 0 (get_or ss k 0))
  where
    go : (0 < get_or ss k 0) ⊎ (get_or ss k 0 ≤ 0) → 0 < get_or ss k 0
    go (inl h) = h
    go (inr h) =
        let z : get_or ss k 0 ≡ 0 = omega arith in
        absurd (both_ways (is_inside js ss k) (ap (inside (job js k).pieces) z ∙ inside_zero (job js k).pieces) e)

-- a job that has been served at all was released before
pub started : (js : List Job) (t k : ℕ) → 0 < ticks js t k → (job js k).release < t
started js zero k h = let z = zeros (length js) k in omega arith
started js (suc t) k h = go (moves js t k) (started js t k)
  where
    now : {B C : Type 0} → (0 < ticks js t k → (job js k).release < t)
        → (is_inside js (served js t) k ≡ true) ⊎ (((job js k).release ≤ t) × B × C) → (job js k).release < suc t
    now ih (inl e) = let i = ih (inside_pos js (served js t) k e) in omega arith
    now ih (inr p) = let i = p.0 in omega arith

    go : Moves js t k → (0 < ticks js t k → (job js k).release < t) → (job js k).release < suc t
    go (inl e) ih = let i = ih (omega arith) in omega arith
    go (inr e) ih = now ih (picks js t (some k) e.0).2

-- two jobs are never inside a piece at once
abbrev Once : List Job → ℕ → Type 0
Once js t = (i k : ℕ) → is_inside js (served js t) i ≡ true → is_inside js (served js t) k ≡ true → i ≡ k

-- so a job inside a piece after tick t is the one that ran in it
only_from : (js : List Job) (t k : ℕ) → Once js t → is_inside js (served js (suc t)) k ≡ true → picked js t ≡ some k
only_from js t k once e = go (moves js t k)
  where
    Before : Type 0
    Before = is_inside js (served js t) k ≡ true

    chosen : {B C : Type 0} (i : ℕ) → picked js t ≡ some i → Before
        → (is_inside js (served js t) i ≡ true) ⊎ (B × ((k : ℕ) → k < length js → is_inside js (served js t) k ≡ false) × C) → picked js t ≡ some k
    chosen i q b (inl h) = q ∙ ap {B = Option ℕ} some (once i k h b)
    chosen i q b (inr h) = absurd (both_ways (is_inside js (served js t) k) (h.1 k (in_range js (served js t) k b)) b)

    at : (o : Option ℕ) → picked js t ≡ o → Before → Picks t js (served js t) o → picked js t ≡ some k
    at none q b p = absurd (both_ways (is_inside js (served js t) k) (p.0 k (in_range js (served js t) k b)) b)
    at (some i) q b p = chosen i q b p.2

    go : Moves js t k → picked js t ≡ some k
    go (inl m) =
        let b : is_inside js (served js t) k ≡ true = ap (inside (job js k).pieces) (sym m) ∙ e in
        at (picked js t) refl b (pick_is t js (served js t))
    go (inr m) = m.0

once : (js : List Job) (t : ℕ) → Once js t
once js zero i k a b =
    let h : 0 < ticks js 0 i = inside_pos js (served js 0) i a in
    let z : ticks js 0 i ≡ 0 = zeros (length js) i in
    omega arith
once js (suc t) i k a b =
    let p : picked js t ≡ some i = only_from js t i (once js t) a in
    let q : picked js t ≡ some k = only_from js t k (once js t) b in
    cc

-- only the job picked last can be inside a piece
pub only : (js : List Job) (t i k : ℕ) → picked js t ≡ some i → is_inside js (served js (suc t)) k ≡ true → i ≡ k
only js t i k p e =
    let q : picked js t ≡ some k = only_from js t k (once js t) e in
    cc

pub served_more : (js : List Job) (t i : ℕ) → picked js t ≡ some i → ticks js (suc t) i ≡ ticks js t i + 1
served_more js t i e =
    let h = (picks js t (some i) e).0 in
    let l = served_length js t in
    ap (λ (ss : List ℕ). get_or ss i 0) (after js t (some i) e) ∙ serve_same (served js t) i (omega arith)
