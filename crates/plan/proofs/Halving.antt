-- The halving that finds the first of several tasks that is refused.
use Rattle.std.proofs.Common.{◌≡◌, ℕ, suc, ◌+◌, ◌-◌, ◌<◌, ◌≤◌, List, [], ◌∷◌, ◌++◌, map, length, get_or, take, drop, Some, None, Ok, Err, Option, Result, sym, ap, ◌∙◌, arith}
use Rattle.std.proofs.lemmas.List.{length-take, length-drop, take-map, drop-map, get_or-take, get_or-drop, take-append-drop, drop-drop, nil_from_length}
use Rattle.std.proofs.Math.Seq.{take-add, drop-cons}
use Rattle.theory.specs.Meaning.{Meaning}
use Rattle.loads.specs.declared.refusal.Refusal.{Refusal}
use Rattle.loads.specs.declared.entry.Entry.{Entry}
use Rattle.plan.specs.Ledger.{Ledger, admitted}
use Rattle.plan.specs.Admissions.{Placed, placed, InTurn, in_turn}
use Rattle.plan.specs.Together.{put_all, At, AllGranted, Together}
use Rattle.plan.proofs.PutTogether.{put_all_join}
use Rattle.plan.proofs.AtOnce.{take_less}
use Rattle.plan.proofs.InTurn.{turn_refused}

-- The task at place n is refused as told, if those before it are granted; where nothing is told, there is none at place n.
abbrev pub Bound : Meaning → Ledger → List Placed → ℕ → Option Refusal → Type 0
Bound g l xs n None = n ≡ length xs
Bound g l xs n (Some r) = (x : Placed) × At xs n x × (admitted g (put_all l (take n xs)) x.channel x.content ≡ Err r)

-- The first `kept` are granted, the last of them with `busy`, and the ledger is `l` then.
pub record Halving (g : Meaning) (old : Ledger) (xs : List Placed) (kept until : ℕ) (why : Option Refusal) (busy : Option ℕ) (l : Ledger) : Type 0 where
  pub ordered : kept ≤ until
  pub within : until ≤ length xs
  pub so_far : in_turn g 0 None xs old ≡ in_turn g kept busy (drop kept xs) l
  pub stands : l ≡ put_all old (take kept xs)
  pub bound : Bound g old xs until why

-- The entries from one place up to another, by plain numbers.
pub part_placed : (n k : ℕ) (es : List (ℕ × Entry)) → map placed (take n (drop k es)) ≡ take n (drop k (map placed es))
part_placed n k es = sym (take-map placed n (drop k es)) ∙ ap (take n) (sym (drop-map placed k es))

module _ (g : Meaning) (old : Ledger) (xs : List Placed) (kept until : ℕ) (why : Option Refusal) (busy : Option ℕ) (l : Ledger) (h : Halving g old xs kept until why busy l)
    (end : ℕ) (some : kept < end) (fits : end ≤ until) where
  part_length : length (take (end - kept) (drop kept xs)) ≡ end - kept
  part_length = omega (arith, length-take (end - kept) (drop kept xs), length-drop kept xs, h.within)

  split : drop kept xs ≡ take (end - kept) (drop kept xs) ++ drop end xs
  split =
      let e : kept + (end - kept) ≡ end = omega (arith, some) in
      sym (take-append-drop (end - kept) (drop kept xs))
      ∙ ap (λ (ys : List Placed). take (end - kept) (drop kept xs) ++ ys) (drop-drop (end - kept) kept xs ∙ ap (λ (n : ℕ). drop n xs) e)

  -- With more of them put in.
  with_more : (n : ℕ) → put_all l (take n (drop kept xs)) ≡ put_all old (take (kept + n) xs)
  with_more n =
      ap (λ (k : Ledger). put_all k (take n (drop kept xs))) h.stands
      ∙ sym (put_all_join old (take kept xs) (take n (drop kept xs)))
      ∙ ap (put_all old) (sym (take-add kept n xs))

  pub half_granted : (w : ℕ) (m : Ledger) → AllGranted g l (take (end - kept) (drop kept xs)) w m → Halving g old xs end until why (Some w) m
  half_granted w m p =
      let e : kept + (end - kept) ≡ end = omega (arith, some) in
      let n : kept + length (take (end - kept) (drop kept xs)) ≡ end = omega (arith, part_length, some) in
      record {
        ordered = fits;
        within = h.within;
        so_far = h.so_far ∙ ap (λ (ys : List Placed). in_turn g kept busy ys l) split ∙ p.1 kept busy (drop end xs) ∙ ap (λ (i : ℕ). in_turn g i (Some w) (drop end xs) m) n;
        stands = p.0 ∙ with_more (end - kept) ∙ ap (λ (i : ℕ). put_all old (take i xs)) e;
        bound = h.bound;
      }

  pub half_refused : (q : ℕ × Refusal) (m : Ledger) → Together g l (take (end - kept) (drop kept xs)) (Err q) m → Halving g old xs kept (kept + q.0) (Some q.1) busy m
  half_refused q m p =
      let x = p.1.0 in
      let at = p.1.1 in
      let n : q.0 < end - kept = omega (arith, at.0, part_length) in
      record {
        ordered = omega arith;
        within = omega (arith, n, fits, h.within);
        so_far = h.so_far ∙ ap (in_turn g kept busy (drop kept xs)) (sym p.0);
        stands = p.0 ∙ h.stands;
        bound = (
          x,
          (omega (arith, n, fits, h.within), at.1 ∙ get_or-take (end - kept) (drop kept xs) q.0 x n ∙ get_or-drop kept xs q.0 x),
          ap (λ (k : Ledger). admitted g k x.channel x.content)
              (sym (with_more q.0) ∙ ap (put_all l) (sym (take_less q.0 (end - kept) (drop kept xs) (omega (arith, n)))))
              ∙ p.1.2,
        );
      }

-- What is answered at the end.
abbrev pub answered : ℕ → Option Refusal → Option ℕ → Result (Option ℕ) (ℕ × Refusal)
answered n None busy = Ok busy
answered n (Some r) busy = Err (n, r)

pub halving_end : (g : Meaning) (old : Ledger) (xs : List Placed) (kept until : ℕ) (why : Option Refusal) (busy : Option ℕ) (l : Ledger) → Halving g old xs kept until why busy l → until ≤ kept
    → ◌≡◌ {A = InTurn} (answered until why busy, l) (in_turn g 0 None xs old)
unfolding in_turn
halving_end g old xs kept until None busy l h e =
    let none : drop kept xs ≡ [] = nil_from_length (drop kept xs) (omega (arith, length-drop kept xs, h.bound, h.ordered)) in
    sym (h.so_far ∙ ap (λ (ys : List Placed). in_turn g kept busy ys l) none)
halving_end g old xs kept until (Some r) busy l h e =
    let x = h.bound.0 in
    let at = h.bound.1 in
    let same : until ≡ kept = omega (arith, e, h.ordered) in
    let first : drop kept xs ≡ x ∷ drop (suc kept) xs =
    drop-cons xs kept x (omega (arith, at.0, same)) ∙ ap (λ (y : Placed). y ∷ drop (suc kept) xs) (sym (at.1 ∙ ap (λ (n : ℕ). get_or xs n x) same)) in
    let refused : admitted g l x.channel x.content ≡ Err r =
    ap (λ (k : Ledger). admitted g k x.channel x.content) (h.stands ∙ ap (λ (n : ℕ). put_all old (take n xs)) (sym same)) ∙ h.bound.2 in
    sym (h.so_far ∙ ap (λ (ys : List Placed). in_turn g kept busy ys l) first ∙ turn_refused g kept busy x (drop (suc kept) xs) l r refused
    ∙ ap (λ (n : ℕ). let t : InTurn = (Err (n, r), l) in t) (sym same))
