-- A load whose claims stay within their ticks never has a late job.
use Rattle.std.proofs.Common.{◌≡◌, ℕ, zero, suc, ◌+◌, ◌<◌, ◌≤◌, Bool, true, false, ◌&&◌, ltb, leb, ◌⊎◌, List, [], ◌∷◌, length, sym, refl, ap, ◌∙◌, subst, inl, inr, arith}
use mathlib.Core.Option.{Option, some, none}
use Rattle.std.proofs.lemmas.List.{get_or_past}
use Rattle.std.proofs.lemmas.Bool.{both_ways, cases_lt, leb-true, le-leb, lt-leb, lt-ltb, ltb-true, and_parts, and_from, and_right}
use Rattle.theory.specs.Jobs.{Job, job, no_job, work, All, Among, Proper, falls_in, work_in}
use Rattle.theory.specs.Dispatch.{inside, is_inside, served, first}
use Rattle.theory.specs.Meaning.{Meaning, Laws}
use Rattle.theory.specs.Statements.{NoClaimExceeds, NeverLate}
use Rattle.theory.proofs.Pieces.{inside_piece, spent, spent_more}
use Rattle.theory.proofs.Choose.{Picks, pick_is, Firsts, first_is}
use Rattle.theory.proofs.Run.{ticks, picked, picks, grows, within_work, started, served_length, in_range, inside_pos, only, after, served_more}
use Rattle.theory.proofs.Given.{given, given_zero, given_same, given_more, given_lt}
use Rattle.theory.proofs.Claims.{claim_is}

-- A job released before u and due after d, with a piece of more than b ticks.
record Blocks (js : List Job) (d u b : ℕ) : Type 0 where
  k : ℕ
  z : ℕ
  there : k < length js
  later : d < (job js k).deadline
  before : (job js k).release < u
  piece : Among z (job js k).pieces
  longer : b < z
  two : 2 ≤ z

-- The ticks from u up to x, none of which was idle. Every job due by d and released before u is finished. Since u, b
-- ticks have gone to one piece begun before u, and the others to the jobs released at u or later and due by d.
record Busy (js : List Job) (d x : ℕ) : Type 0 where
  u : ℕ
  b : ℕ
  cleared : (i : ℕ) → (job js i).deadline ≤ d → (job js i).release < u → work (job js i) ≤ ticks js x i
  count : x ≡ u + (b + given u d js (served js x))
  blocked : (b ≡ 0) ⊎ Blocks js d u b
  held : (k : ℕ) → d < (job js k).deadline → is_inside js (served js x) k ≡ true
      → ((job js k).release < u) × (b < spent (job js k).pieces (ticks js x k))

-- At tick x, every job due by d and released before x is finished.
abbrev Clear : List Job → ℕ → ℕ → Type 0
Clear js d x = (i : ℕ) → (job js i).deadline ≤ d → (job js i).release < x → work (job js i) ≤ ticks js x i

-- At tick x, job i is due by d, released before x and not finished.
record Open (js : List Job) (d x : ℕ) : Type 0 where
  i : ℕ
  there : i < length js
  soon : (job js i).deadline ≤ d
  before : (job js i).release < x
  unfinished : ticks js x i < work (job js i)

clear_or_open : (js : List Job) (d x : ℕ) → Clear js d x ⊎ Open js d x
clear_or_open js d x = go (first test (length js)) (first_is test (length js))
  where
    test : ℕ → Bool
    test i = leb (job js i).deadline d && (ltb (job js i).release x && ltb (ticks js x i) (work (job js i)))

    past : (i : ℕ) → length js ≤ i → work (job js i) ≡ 0
    past i h = ap work (get_or_past js i no_job h)

    done : (i : ℕ) → (i < length js → test i ≡ false) → (job js i).deadline ≤ d → (job js i).release < x
        → (i < length js) ⊎ (length js ≤ i) → (ticks js x i < work (job js i)) ⊎ (work (job js i) ≤ ticks js x i) → work (job js i) ≤ ticks js x i
    done i f s b c (inr h) = h
    done i f s b (inl c) (inl h) =
        absurd (both_ways (test i) (f c) (and_from _ _ (le-leb _ _ s) (and_from _ _ (lt-ltb _ _ b) (lt-ltb _ _ h))))
    done i f s b (inr c) (inl h) = let z = past i c in omega arith

    go : (o : Option ℕ) → Firsts test (length js) o → Clear js d x ⊎ Open js d x
    go none f = inl (λ i s b. done i (f i) s b (cases_lt i (length js)) (cases_lt (ticks js x i) (work (job js i))))
    go (some i) f =
        let p = and_parts _ _ f.1 in
        let q = and_parts _ _ p.1 in
        inr (record { i = i; there = f.0; soon = leb-true _ _ p.0; before = ltb-true _ _ q.0; unfinished = ltb-true _ _ q.1 })

-- Where all are finished, u is x.
fresh : (js : List Job) (d x : ℕ) → Clear js d x → Busy js d x
fresh js d x c = record {
  u = x;
  b = 0;
  cleared = c;
  count = let z = given_zero x d js (served js x) none_yet in omega arith;
  blocked = inl refl;
  held = λ k l e.
      let q = inside_piece (job js k).pieces (ticks js x k) e in
      (started js x k (inside_pos js (served js x) k e), q.2);
}
  where
    none_yet : (i : ℕ) → falls_in x d (job js i) ≡ true → ticks js x i ≡ 0
    none_yet i f = go (cases_lt 0 (ticks js x i))
      where
        r : x ≤ (job js i).release
        r = leb-true _ _ (and_parts _ _ f).0

        go : (0 < ticks js x i) ⊎ (ticks js x i ≤ 0) → ticks js x i ≡ 0
        go (inl h) = let s = started js x i h in let r' = r in omega arith
        go (inr h) = omega arith

-- the picked job is due by d
ours : (js : List Job) (d x i : ℕ) (B : Busy js d x) → picked js x ≡ some i → (job js i).deadline ≤ d → Busy js d (suc x)
ours js d x i B e s = record {
  u = B.u;
  b = B.b;
  cleared = λ k l r. let c = B.cleared k l r in let g = grows js x k in omega arith;
  count = let c = B.count in let m = more in omega arith;
  blocked = B.blocked;
  held = λ k l f. let q = ap (λ n. (job js n).deadline) (only js x i k e f) in absurd (omega arith);
}
  where
    p : Picks x js (served js x) (some i)
    p = picks js x (some i) e

    since : (B.u ≤ (job js i).release)
    since = go (cases_lt (job js i).release B.u)
      where
        go : ((job js i).release < B.u) ⊎ (B.u ≤ (job js i).release) → B.u ≤ (job js i).release
        go (inl h) = let c = B.cleared i s h in let q = p.1 in absurd (omega arith)
        go (inr h) = h

    more : given B.u d js (served js (suc x)) ≡ given B.u d js (served js x) + 1
    more = ap (given B.u d js) (after js x (some i) e)
        ∙ given_more B.u d js (served js x) i p.0 (served_length js x) (and_from _ _ (le-leb _ _ since) (le-leb _ _ s))

-- the picked job is due after d, and inside a piece
theirs : (js : List Job) (d x i : ℕ) (B : Busy js d x) → picked js x ≡ some i → d < (job js i).deadline → is_inside js (served js x) i ≡ true → Busy js d (suc x)
theirs js d x i B e s f = record {
  u = B.u;
  b = B.b + 1;
  cleared = λ k l r. let c = B.cleared k l r in let g = grows js x k in omega arith;
  count = let c = B.count in let m = same in omega arith;
  blocked = inr (record {
    k = i;
    z = q.0;
    there = in_range js (served js x) i f;
    later = s;
    before = h.0;
    piece = q.1;
    longer = let a = h.1 in let c = q.3 in omega arith;
    two = let a = q.2 in let c = q.3 in omega arith;
  });
  held = λ k l g. on k (only js x i k e g) g;
}
  where
    h : ((job js i).release < B.u) × (B.b < spent (job js i).pieces (ticks js x i))
    h = B.held i s f

    q : (z : ℕ) × Among z (job js i).pieces × (1 ≤ spent (job js i).pieces (ticks js x i)) × (spent (job js i).pieces (ticks js x i) < z)
    q = inside_piece (job js i).pieces (ticks js x i) f

    same : given B.u d js (served js (suc x)) ≡ given B.u d js (served js x)
    same = ap (given B.u d js) (after js x (some i) e)
        ∙ given_same B.u d js (served js x) i (ticks js x i + 1) (and_right _ _ (lt-leb _ _ s))

    one_more : ticks js (suc x) i ≡ ticks js x i + 1
    one_more = served_more js x i e

    here : is_inside js (served js (suc x)) i ≡ true → ((job js i).release < B.u) × (B.b + 1 < spent (job js i).pieces (ticks js (suc x) i))
    here g =
        let n = spent_more (job js i).pieces (ticks js x i) f (ap (inside (job js i).pieces) (sym one_more) ∙ g) in
        let m = ap (spent (job js i).pieces) one_more in
        let a = h.1 in
        (h.0, omega arith)

    on : (k : ℕ) → i ≡ k → is_inside js (served js (suc x)) k ≡ true → ((job js k).release < B.u) × (B.b + 1 < spent (job js k).pieces (ticks js (suc x) k))
    on k r = subst (λ (n : ℕ). is_inside js (served js (suc x)) n ≡ true → ((job js n).release < B.u) × (B.b + 1 < spent (job js n).pieces (ticks js (suc x) n))) r here

-- One tick more: u moves on to it where all are finished, and else the tick went to a job due by d or to that piece.
step : (js : List Job) (d x : ℕ) → Busy js d x → Busy js d (suc x)
step js d x B = go (clear_or_open js d (suc x))
  where
    at : (o : Open js d (suc x)) (p : Option ℕ) → picked js x ≡ p → Picks x js (served js x) p → Busy js d (suc x)
    at o none e p =
        let g = grows js x o.i in let r = o.before in let n = o.unfinished in
        absurd (p.1 o.i o.there (omega arith, omega arith))
    at o (some i) e p = due (cases_lt d (job js i).deadline) p.2
      where
        due : (d < (job js i).deadline) ⊎ ((job js i).deadline ≤ d)
            → (is_inside js (served js x) i ≡ true)
            ⊎ (((job js i).release ≤ x)
            × ((k : ℕ) → k < length js → is_inside js (served js x) k ≡ false)
            × ((k : ℕ) → k < length js → ((job js k).release ≤ x) × (ticks js x k < work (job js k)) → (job js i).deadline ≤ (job js k).deadline))
            → Busy js d (suc x)
        due (inr s) w = ours js d x i B e s
        due (inl s) (inl f) = theirs js d x i B e s f
        due (inl s) (inr w) =
            let g = grows js x o.i in let r = o.before in let n = o.unfinished in let l = o.soon in
            let m = w.2 o.i o.there (omega arith, omega arith) in
            absurd (omega arith)

    go : Clear js d (suc x) ⊎ Open js d (suc x) → Busy js d (suc x)
    go (inl c) = fresh js d (suc x) c
    go (inr o) = at o (picked js x) refl (pick_is x js (served js x))

busy : (js : List Job) (d x : ℕ) → Busy js d x
busy js d zero = fresh js d 0 (λ i s b. absurd (omega arith))
busy js d (suc x) = step js d x (busy js d x)

among : (js : List Job) (k : ℕ) → k < length js → Among (job js k) js
among [] k h = absurd (omega arith)
among (j ∷ js) zero h = inl refl
among (j ∷ js) (suc k) h = inr (among js k (omega arith))

-- what is left unfinished at d contradicts the claim
module _ (m : Meaning) (l : Laws m) (fit : NoClaimExceeds m.amounts) (js : List Job) (proper : All Proper js) (permit : m.Permits js)
    (d i : ℕ) (soon : (job js i).deadline ≤ d) (late : ticks js d i < work (job js i)) (B : Busy js d d) where
  there : i < length js
  there = go (cases_lt i (length js))
    where
      go : (i < length js) ⊎ (length js ≤ i) → i < length js
      go (inl h) = h
      go (inr h) = let z : work (job js i) ≡ 0 = ap work (get_or_past js i no_job h) in absurd (omega arith)

  since : B.u ≤ (job js i).release
  since = go (cases_lt (job js i).release B.u)
    where
      go : ((job js i).release < B.u) ⊎ (B.u ≤ (job js i).release) → B.u ≤ (job js i).release
      go (inl h) = let c = B.cleared i soon h in absurd (omega arith)
      go (inr h) = h

  less : given B.u d js (served js d) < work_in B.u d js
  less = given_lt B.u d js (served js d) i there (served_length js d) (within_work js d) (and_from _ _ (le-leb _ _ since) (le-leb _ _ soon)) late

  over : (t : ℕ) → B.u + t ≡ d → t ≡ B.b + given B.u d js (served js d) → (B.b ≡ 0) ⊎ Blocks js d B.u B.b → ⊥
  over t e q (inl z) =
      let w : work_in B.u d js ≤ m.amounts.due t = rw e at (l.within js proper permit B.u t) in
      let g = less in
      let c = claim_is m.amounts t (omega arith) in
      let f = fit t in
      omega arith
  over t e q (inr k) =
      let w : work_in B.u d js ≤ m.amounts.due t = rw e at (l.within js proper permit B.u t) in
      let g = less in
      let c = claim_is m.amounts t (omega arith) in
      let f = fit t in
      let later : B.u + t < (job js k.k).deadline = let r = k.later in omega arith in
      let h = l.beside_held js proper permit B.u t k.z (job js k.k) (among js k.k k.there) k.before later k.piece k.two in
      let h' : work_in B.u d js + k.z ≤ m.amounts.due t + m.amounts.held t = rw e at h in
      let z = k.longer in
      omega arith

  never : ⊥
  never = over (B.b + given B.u d js (served js d)) (sym B.count) refl B.blocked

pub never_late : (m : Meaning) → Laws m → NoClaimExceeds m.amounts → NeverLate m
never_late m l fit js proper permit i late =
    never m l fit js proper permit (job js i).deadline i (omega arith) late (busy js (job js i).deadline (job js i).deadline)
