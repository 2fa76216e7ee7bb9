-- Tasks that are accepted together are accepted one after another, and what that leaves is what the calls leave.
use Rattle.std.proofs.Common.{◌≡◌, ℕ, suc, ◌+◌, ◌-◌, ◌<◌, ◌≤◌, List, [], ◌∷◌, ◌++◌, map, length, take, Some, Ok, Err, Option, Result, sym, refl, ap, ◌∙◌, subst, arith}
use Rattle.theory.specs.Jobs.{All}
use Rattle.theory.specs.Meaning.{Meaning, Laws}
use Rattle.theory.proofs.Verdicts.{accepted_yes}
use Rattle.loads.specs.declared.refusal.Refusal.{Refusal}
use Rattle.loads.specs.declared.entry.Entry.{Entry}
use Rattle.loads.specs.Params.{TaskRanges}
use Rattle.loads.specs.Ranged.{Ranged, set_ranged, task_ranged}
use Rattle.loads.specs.Channels.{content}
use Rattle.plan.specs.declared.call.Call.TheVariants.{Admit}
use Rattle.plan.specs.Ledger.{Ledger, plan, by_verdict, admitted, if_ok, next, after}
use Rattle.plan.specs.Admissions.{Placed, placed, InTurn, in_turn, tried, admits}
use Rattle.plan.specs.Together.{vacant, put_one, put_all, EachVacant}
use Rattle.plan.proofs.Reach.{Fits, weighed_fits, retired_fits, admitted_ok, plan_laws}
use Rattle.plan.proofs.PutTogether.{emptied, vacant_weighed, granted_vacant}

-- One task granted, and one refused.
turn_granted : (g : Meaning) (n : ℕ) (o : Option ℕ) (x : Placed) (xs : List Placed) (l : Ledger) (w : ℕ) → admitted g l x.channel x.content ≡ Ok w
    → in_turn g n o (x ∷ xs) l ≡ in_turn g (n + 1) (Some w) xs (put_one l x)
unfolding in_turn
turn_granted g n o x xs l w e =
    ap (λ (r : Result ℕ Refusal). let t : InTurn = elim r [ Err r ↦ (Err (n, r), l) | Ok w ↦ in_turn g (suc n) (Some w) xs (put_one l x) ] in t) e
    ∙ ap (λ (i : ℕ). in_turn g i (Some w) xs (put_one l x)) (let s : suc n ≡ n + 1 = omega arith in s)

pub turn_refused : (g : Meaning) (n : ℕ) (o : Option ℕ) (x : Placed) (xs : List Placed) (l : Ledger) (r : Refusal) → admitted g l x.channel x.content ≡ Err r
    → in_turn g n o (x ∷ xs) l ≡ (Err (n, r), l)
unfolding in_turn
turn_refused g n o x xs l r e =
    ap (λ (r : Result ℕ Refusal). let t : InTurn = elim r [ Err r ↦ (Err (n, r), l) | Ok w ↦ in_turn g (suc n) (Some w) xs (put_one l x) ] in t) e

-- Tasks in range.
abbrev pub InRange : List Placed → Type 0
InRange xs = All (λ (x : Placed). TaskRanges x.content.params) xs

pub entries_in_range : (es : List (ℕ × Entry)) → InRange (map placed es)
entries_in_range [] = tt
entries_in_range (e ∷ es) = (task_ranged e.1.task, entries_in_range es)

put_ranged : (l : Ledger) (x : Placed) → Ranged l → TaskRanges x.content.params → Ranged (put_one l x)
put_ranged l x r t = set_ranged l x.channel (Some x.content) t r

all_ranged : (l : Ledger) (xs : List Placed) → Ranged l → InRange xs → Ranged (put_all l xs)
all_ranged l [] r t = r
all_ranged l (x ∷ xs) r t = all_ranged (put_one l x) xs (put_ranged l x r t.0) t.1

module _ (g : Meaning) (lg : Laws g) where
  -- A plan is accepted if it is with one task more, or with several.
  less_fits : (l : Ledger) (x : Placed) → Ranged l → TaskRanges x.content.params → vacant l x.channel x.content ≡ Ok tt → Fits g lg (put_one l x) → Fits g lg l
  less_fits l x r t v h = subst (Fits g lg) (emptied l x v) (retired_fits g lg (put_one l x) x.channel (put_ranged l x r t) h)

  first_fits : (l : Ledger) (xs : List Placed) → Ranged l → InRange xs → EachVacant l xs → Fits g lg (put_all l xs) → Fits g lg l
  first_fits l [] r t v h = h
  first_fits l (x ∷ xs) r t v h = less_fits l x r t.0 v.0 (first_fits (put_one l x) xs (put_ranged l x r t.0) t.1 v.1 h)

  -- Then each of them is granted in turn.
  granted : (l : Ledger) (x : Placed) → Ranged l → TaskRanges x.content.params → vacant l x.channel x.content ≡ Ok tt → Fits g lg (put_one l x) → (w : ℕ) × (admitted g l x.channel x.content ≡ Ok w)
  granted l x r t v h =
      let y = accepted_yes (plan g (put_one l x)).amounts (plan_laws g lg (put_one l x) (put_ranged l x r t)).rules h in
      (y.0, vacant_weighed g l x.channel x.content v ∙ ap by_verdict y.1)

  last_fits : (l : Ledger) (x : Placed) (w : ℕ) → Ranged l → TaskRanges x.content.params → admitted g l x.channel x.content ≡ Ok w → Fits g lg (put_one l x)
  last_fits l x w r t e = weighed_fits g lg l x.channel x.content w (put_ranged l x r t) (admitted_ok g l x.channel x.content w e).1

  -- All but the last are put in, and that one is granted: so is each in turn, and the answer is that of the last.
  pub together_granted : (n : ℕ) (o : Option ℕ) (l : Ledger) (xs : List Placed) (x : Placed) (ys : List Placed) (w : ℕ) → Ranged l → InRange xs → TaskRanges x.content.params
      → EachVacant l xs → admitted g (put_all l xs) x.channel x.content ≡ Ok w
      → in_turn g n o ((xs ++ (x ∷ [])) ++ ys) l ≡ in_turn g (n + length (xs ++ (x ∷ []))) (Some w) ys (put_one (put_all l xs) x)
  together_granted n o l [] x ys w r t tx v e = turn_granted g n o x ys l w e
  together_granted n o l (y ∷ xs) x ys w r t tx v e =
      let r1 = put_ranged l y r t.0 in
      let all = all_ranged (put_one l y) xs r1 t.1 in
      let m = put_all (put_one l y) xs in
      let f = first_fits (put_one l y) xs r1 t.1 v.1 (less_fits m x all tx (granted_vacant g m x.channel x.content w e) (last_fits m x w all tx e)) in
      let p = granted l y r t.0 v.0 f in
      turn_granted g n o y ((xs ++ (x ∷ [])) ++ ys) l p.0 p.1
      ∙ together_granted (n + 1) (Some p.0) (put_one l y) xs x ys w r1 t.1 tx v.1 e
      ∙ ap (λ (i : ℕ). in_turn g i (Some w) ys (put_one m x)) (let s : n + 1 + length (xs ++ (x ∷ [])) ≡ n + suc (length (xs ++ (x ∷ []))) = omega arith in s)

-- What is answered where the first of them is answered with `r`.
abbrev pub by_first : Meaning → ℕ → Placed → List Placed → Ledger → Result ℕ Refusal → InTurn
by_first g n x xs l r = elim r [ Err e ↦ (Err (n, e), l) | Ok w ↦ in_turn g (suc n) (Some w) xs (put_one l x) ]

-- Where one is refused its place is one of theirs, counted from n.
Within : Result (Option ℕ) (ℕ × Refusal) → ℕ → ℕ → Type 0
Within (Ok o) n k = Unit {0}
Within (Err p) n k = (n ≤ p.0) × (p.0 < n + k)

answers_within : (g : Meaning) (n : ℕ) (o : Option ℕ) (xs : List Placed) (l : Ledger) → Within (in_turn g n o xs l).0 n (length xs)
unfolding in_turn Within
answers_within g n o [] l = tt
answers_within g n o (x ∷ xs) l = go (admitted g l x.channel x.content) (λ w. answers_within g (suc n) (Some w) xs (put_one l x))
  where
    more : (t : Result (Option ℕ) (ℕ × Refusal)) → Within t (suc n) (length xs) → Within t n (suc (length xs))
    more (Ok o) h = tt
    more (Err p) h = (omega (arith, h.0), omega (arith, h.1))

    go : (r : Result ℕ Refusal) → ((w : ℕ) → Within (in_turn g (suc n) (Some w) xs (put_one l x)).0 (suc n) (length xs)) → Within (by_first g n x xs l r).0 n (suc (length xs))
    go (Err r) ih = (omega arith, omega arith)
    go (Ok w) ih = more (in_turn g (suc n) (Some w) xs (put_one l x)).0 (ih w)

pub place_within : (g : Meaning) (n : ℕ) (o : Option ℕ) (xs : List Placed) (l : Ledger) (p : ℕ × Refusal) → (in_turn g n o xs l).0 ≡ Err p → (n ≤ p.0) × (p.0 < n + length xs)
unfolding Within
place_within g n o xs l p e = subst (λ (t : Result (Option ℕ) (ℕ × Refusal)). Within t n (length xs)) e (answers_within g n o xs l)

-- How many of them were tried, where the first has place n.
abbrev count : {X : Type 0} → ℕ → ℕ → Result X (ℕ × Refusal) → ℕ
count n all (Ok x) = all
count n all (Err p) = suc p.0 - n

one_less : (n k : ℕ) (t : Result (Option ℕ) (ℕ × Refusal)) → ((p : ℕ × Refusal) → t ≡ Err p → suc n ≤ p.0) → count n (suc k) t ≡ suc (count (suc n) k t)
one_less n k (Ok o) b = refl
one_less n k (Err p) b = let q = b p refl in omega (arith, q)

-- The ledger that a call leaves which admits `d`, by its answer.
admit_leaves : (g : Meaning) (l : Ledger) (d : ℕ × Entry) (r : Result ℕ Refusal) → admitted g l d.0 (content d.1) ≡ r → next g l (Admit d.0 d.1) ≡ if_ok r (put_one l (placed d)) l
admit_leaves g l d r q = ap (λ (r : Result ℕ Refusal). if_ok r (put_one l (placed d)) l) q

After : Meaning → ℕ → List (ℕ × Entry) → Ledger → InTurn → Type 0
After g n es l x = x.1 ≡ after g l (admits (take (count n (length es) x.0) es))

counted_after : (g : Meaning) (n : ℕ) (o : Option ℕ) (es : List (ℕ × Entry)) (l : Ledger) → After g n es l (in_turn g n o (map placed es) l)
unfolding in_turn After
counted_after g n o [] l = refl
counted_after g n o (d ∷ es) l = go (admitted g l d.0 (content d.1)) refl (λ w. counted_after g (suc n) (Some w) es (put_one l (placed d)))
  where
    go : (r : Result ℕ Refusal) → admitted g l d.0 (content d.1) ≡ r → ((w : ℕ) → After g (suc n) es (put_one l (placed d)) (in_turn g (suc n) (Some w) (map placed es) (put_one l (placed d))))
        → After g n (d ∷ es) l (by_first g n (placed d) (map placed es) l r)
    go (Err r) q ih =
        let one : 1 ≡ suc n - n = omega arith in
        sym (admit_leaves g l d (Err r) q) ∙ ap (λ (i : ℕ). after g l (admits (take i (d ∷ es)))) one
    go (Ok w) q ih =
        let m = put_one l (placed d) in
        let x = in_turn g (suc n) (Some w) (map placed es) m in
        ih w
        ∙ ap (λ (k : Ledger). after g k (admits (take (count (suc n) (length es) x.0) es))) (sym (admit_leaves g l d (Ok w) q))
        ∙ ap (λ (i : ℕ). after g l (admits (take i (d ∷ es)))) (sym (one_less n (length es) x.0 (λ p u. (place_within g (suc n) (Some w) (map placed es) m p u).0)))

from_zero : (k : ℕ) (t : Result (Option ℕ) (ℕ × Refusal)) → count 0 k t ≡ tried k t
from_zero k (Ok o) = refl
from_zero k (Err p) = omega arith

-- What they leave is what the calls leave that admit them, up to the refused one.
pub in_turn_calls : (g : Meaning) (o : Option ℕ) (es : List (ℕ × Entry)) (l : Ledger) (x : InTurn) → x ≡ in_turn g 0 o (map placed es) l → x.1 ≡ after g l (admits (take (tried (length es) x.0) es))
unfolding After
in_turn_calls g o es l x e =
    subst (λ (y : InTurn). y.1 ≡ after g l (admits (take (tried (length es) y.0) es))) (sym e)
    (counted_after g 0 o es l ∙ ap (λ (i : ℕ). after g l (admits (take i es))) (from_zero (length es) (in_turn g 0 o (map placed es) l).0))
