-- What is answered where all but the last are put in and that one is admitted.
use Rattle.std.proofs.Common.{◌≡◌, ℕ, zero, suc, ◌+◌, ◌<◌, ◌≤◌, List, [], ◌∷◌, ◌++◌, map, length, get_or, take, Some, Ok, Err, Option, Result, sym, refl, ap, ◌∙◌, subst, arith}
use Rattle.std.specs.Result.{MatchResult, IsErrAnd}
use Rattle.std.proofs.lemmas.List.{take-map, take_all, length-map, get_or-take, length-take}
use Rattle.theory.specs.Meaning.{Meaning, Laws}
use Rattle.loads.specs.declared.refusal.Refusal.{Refusal}
use Rattle.loads.specs.declared.entry.Entry.{Entry}
use Rattle.loads.specs.Ranged.{Ranged, task_ranged}
use Rattle.loads.specs.Channels.{content}
use Rattle.plan.specs.declared.call.Call.TheVariants.{Admit}
use Rattle.plan.specs.Ledger.{Ledger, admitted, if_ok, next}
use Rattle.plan.specs.Admissions.{Placed, placed, in_turn}
use Rattle.plan.specs.Together.{put_one, put_all, EachVacant, At, PutIn, AllGranted, Tried, Together}
use Rattle.plan.proofs.PutTogether.{not_vacant, take_at, placed_at, put_all_join}
use Rattle.plan.proofs.InTurn.{entries_in_range, together_granted, InRange}

-- The first of the first are the first.
pub take_less : {X : Type 0} (n k : ℕ) (xs : List X) → n ≤ k → take n (take k xs) ≡ take n xs
take_less zero k xs h = refl
take_less (suc n) zero xs h = absurd (omega arith)
take_less (suc n) (suc k) [] h = refl
take_less (suc n) (suc k) (x ∷ xs) h = ap (λ ys. x ∷ ys) (take_less n k xs (omega arith))

take_placed : (n k : ℕ) (es : List (ℕ × Entry)) → n ≤ k → take n (map placed (take k es)) ≡ take n (map placed es)
take_placed n k es h = ap (take n) (sym (take-map placed k es)) ∙ take_less n k (map placed es) h

-- One of the first is kept out by its checks.
pub stopped_early : (g : Meaning) (l m : Ledger) (es : List (ℕ × Entry)) (k : ℕ) (q : ℕ × Refusal) → PutIn l (map placed (take k es)) (Err q) m → Tried g l (map placed es) (Err q) m
stopped_early g l m es k q p =
    let x = p.2.0 in
    let at = p.2.1 in
    let n : q.0 < k = omega (arith, at.0, length-map (take k es) placed, length-take k es) in
    let t = take_placed q.0 k es (omega (arith, n)) in
    let len : length (map placed (take k es)) ≤ length (map placed es) = omega (arith, length-map (take k es) placed, length-take k es, length-map es placed) in
    let same : get_or (map placed (take k es)) q.0 x ≡ get_or (map placed es) q.0 x = ap (λ (xs : List Placed). get_or xs q.0 x) (sym (take-map placed k es)) ∙ get_or-take k (map placed es) q.0 x n in (
      subst (EachVacant l) t p.0,
      p.1 ∙ ap (put_all l) t,
      (x, (omega (arith, at.0, len), at.1 ∙ same), not_vacant g m x.channel x.content q.1 p.2.2),
    )

-- All but the last are in, and that one is admitted with the answer `r`.
module _ (g : Meaning) (lg : Laws g) (l m m' : Ledger) (es : List (ℕ × Entry)) (last : ℕ) (e : ℕ × Entry) (length-is : length es ≡ last + 1) (is : e ≡ get_or es last e) (ranged : Ranged l)
    (p : PutIn l (map placed (take last es)) (Ok tt) m) (r : Result ℕ Refusal) (says : r ≡ admitted g m e.0 (content e.1)) (then : m' ≡ next g m (Admit e.0 e.1)) where
  front : map placed (take last es) ≡ take last (map placed es)
  front = sym (take-map placed last es)

  at : At (map placed es) last (placed e)
  at = placed_at es last e (omega (arith, length-is)) is

  whole : take last (map placed es) ++ (placed e ∷ []) ≡ map placed es
  whole = sym (take_at (map placed es) last (placed e) at.0 at.1) ∙ take_all (last + 1) (map placed es) (omega (arith, length-map es placed, length-is))

  leaves : (q : Result ℕ Refusal) → admitted g m e.0 (content e.1) ≡ q → m' ≡ if_ok q (put_one m (placed e)) m
  leaves q a = then ∙ ap (λ (q : Result ℕ Refusal). if_ok q (put_one m (placed e)) m) a

  before : m ≡ put_all l (take last (map placed es))
  before = p.1 ∙ ap (put_all l) front

  all_granted : (w : ℕ) → admitted g m e.0 (content e.1) ≡ Ok w → AllGranted g l (map placed es) w m'
  all_granted w s =
      let xs = map placed es in
      let x = placed e in
      let n = put_all l (take last xs) in
      let one : m' ≡ put_one n x = leaves (Ok w) s ∙ ap (λ (k : Ledger). put_one k x) before in
      let t = λ (i : ℕ) (o : Option ℕ) (ys : List Placed).
      together_granted g lg i o l (take last xs) x ys w ranged (subst InRange front (entries_in_range (take last es))) (task_ranged e.1.task) (subst (EachVacant l) front p.0)
      (ap (λ (k : Ledger). admitted g k e.0 (content e.1)) (sym before) ∙ s) in (
        one ∙ sym (put_all_join l (take last xs) (x ∷ [])) ∙ ap (put_all l) whole,
        λ i o ys. ap (λ (zs : List Placed). in_turn g i o (zs ++ ys) l) (sym whole) ∙ t i o ys ∙ ap (λ (zs : List Placed). in_turn g (i + length zs) (Some w) ys (put_one n x)) whole
            ∙ ap (in_turn g (i + length xs) (Some w) ys) (sym one),
      )

  not_granted : (f : Refusal) → admitted g m e.0 (content e.1) ≡ Err f → Tried g l (map placed es) (Err (last, f)) m'
  not_granted f s =
      let as_before : m' ≡ m = leaves (Err f) s in
      (subst (EachVacant l) front p.0, as_before ∙ before, (placed e, at, ap (λ (k : Ledger). admitted g k e.0 (content e.1)) as_before ∙ s))

  pub tried_all : (a : Result ℕ (ℕ × Refusal)) → MatchResult r (λ w. a ≡ Ok w) (λ f. IsErrAnd a (λ q. q ≡ (last, f))) → Tried g l (map placed es) a m'
  tried_all a c = go r (sym says) a c
    where
      go : (r : Result ℕ Refusal) → admitted g m e.0 (content e.1) ≡ r → (a : Result ℕ (ℕ × Refusal)) → MatchResult r (λ w. a ≡ Ok w) (λ f. IsErrAnd a (λ q. q ≡ (last, f))) → Tried g l (map placed es) a m'
      go (Ok w) s (Ok v) c = let q : w ≡ v = cc in all_granted v (s ∙ ap (λ (x : ℕ). Ok x) q)
      go (Ok w) s (Err q) c = cc
      go (Err f) s (Ok v) c = absurd c
      go (Err f) s (Err q) c = subst (λ (y : ℕ × Refusal). Tried g l (map placed es) (Err y) m') (sym c) (not_granted f s)

-- Where one is refused and those before it are taken out, the ledger is as before.
pub none_stays : (g : Meaning) (l m m' : Ledger) (es : List (ℕ × Entry)) (q : ℕ × Refusal) → Tried g l (map placed es) (Err q) m
    → ((o : Ledger) → EachVacant o (map placed (take q.0 es)) → m ≡ put_all o (map placed (take q.0 es)) → m' ≡ o) → Together g l (map placed es) (Err q) m'
none_stays g l m m' es q t out =
    let e = take-map placed q.0 es in
    let x = t.2.0 in
    (out l (subst (EachVacant l) e t.0) (t.1 ∙ ap (put_all l) e), (x, t.2.1, ap (λ (k : Ledger). admitted g k x.channel x.content) (sym t.1) ∙ t.2.2))
