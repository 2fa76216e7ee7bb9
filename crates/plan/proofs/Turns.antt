-- Calls carried out one by one: answers and channels are the ledger's, and later places are untouched.
use Rattle.std.proofs.Common.{◌≡◌, ℕ, ◌+◌, ◌<◌, List, [], ◌∷◌, ◌++◌, map, length, get_or, take, drop, set, Result, sym, refl, ap, ◌∙◌, subst, arith, drop-drop, drop-set-lt}
use mathlib.Core.List.{map-append}
use Rattle.std.proofs.lemmas.List.{take_more, take_more_set}
use Rattle.theory.specs.Meaning.{Meaning, Laws}
use Rattle.theory.specs.Statements.{NeverLate}
use Rattle.plan.specs.declared.call.Call.{Call}
use Rattle.loads.specs.declared.refusal.Refusal.{Refusal}
use Rattle.loads.specs.Channels.{blank}
use Rattle.plan.specs.declared.call.Done.{Done}
use Rattle.plan.specs.Ledger.{Ledger, plan, Reply, reply, answer_to, next, after, answers_to}
use Rattle.plan.specs.Promise.{Kept}
use Rattle.plan.proofs.PromiseHolds.{promise}

-- What the code answers to a call.
abbrev Answer : Type 0
Answer = Result Done Refusal

pub after_join : (g : Meaning) (l : Ledger) (xs ys : List Call) → after g l (xs ++ ys) ≡ after g (after g l xs) ys
after_join g l [] ys = refl
after_join g l (x ∷ xs) ys = after_join g (next g l x) xs ys

answers_more : (g : Meaning) (l : Ledger) (xs : List Call) (k : Call) → answers_to g l (xs ++ k ∷ []) ≡ answers_to g l xs ++ answer_to g (after g l xs) k ∷ []
answers_more g l [] k = refl
answers_more g l (x ∷ xs) k = ap (λ r. answer_to g l x ∷ r) (answers_more g (next g l x) xs k)

-- After n of the calls `cs`, begun with the channels `start` and the places `old`: the channels `l` are the ledger's,
-- the first n of the places `rs` hold the ledger's answers, and the later ones what they held.
pub record SoFar (g : Meaning) (start : Ledger) (cs : List Call) (old : List Answer) (n : ℕ) (l : Ledger) (rs : List Answer) : Type 0 where
  pub stands : l ≡ after g start (take n cs)
  pub answered : map reply (take n rs) ≡ answers_to g start (take n cs)
  pub untouched : drop n rs ≡ drop n old

pub at_start : (g : Meaning) (start : Ledger) (cs : List Call) (old : List Answer) → SoFar g start cs old 0 start old
at_start g start cs old = record { stands = refl; answered = refl; untouched = refl }

-- One call more: `k` is the next of the calls, and the code answers `a` and leaves the channels `l'`.
module _ (g : Meaning) (start : Ledger) (cs : List Call) (old rs : List Answer) (n : ℕ) (l l' : Ledger) (k : Call) (a : Answer)
    (so : SoFar g start cs old n l rs) (in-calls : n < length cs) (in-places : n < length rs) (call : k ≡ get_or cs n k)
    (says : reply a ≡ answer_to g l k) (slots : l' ≡ next g l k) where
  one_more : take (n + 1) cs ≡ take n cs ++ k ∷ []
  one_more = take_more cs n k in-calls ∙ ap (λ y. take n cs ++ y ∷ []) (sym call)

  turn_stands : l' ≡ after g start (take (n + 1) cs)
  turn_stands = slots ∙ ap (λ s. next g s k) so.stands ∙ sym (after_join g start (take n cs) (k ∷ [])) ∙ ap (after g start) (sym one_more)

  turn_answered : map reply (take (n + 1) (set rs n a)) ≡ answers_to g start (take (n + 1) cs)
  turn_answered =
      ap (map reply) (take_more_set rs n a in-places)
      ∙ map-append reply (take n rs) (a ∷ [])
      ∙ ap (λ (r : List Reply). r ++ reply a ∷ []) so.answered
      ∙ ap (λ y. answers_to g start (take n cs) ++ y ∷ []) (says ∙ ap (λ s. answer_to g s k) so.stands)
      ∙ sym (answers_more g start (take n cs) k)
      ∙ ap (answers_to g start) (sym one_more)

  turn_untouched : drop (n + 1) (set rs n a) ≡ drop (n + 1) old
  turn_untouched =
      drop-set-lt (n + 1) rs n a (omega arith)
      ∙ sym (drop-drop 1 n rs)
      ∙ ap (drop 1) so.untouched
      ∙ drop-drop 1 n old

  pub turn : SoFar g start cs old (n + 1) l' (set rs n a)
  turn = record { stands = turn_stands; answered = turn_answered; untouched = turn_untouched }

-- Channels that are the ledger's after the calls `before` and then `ks` keep the promise, with the ledger's answers.
pub kept_more : (g : Meaning) → Laws g → (before ks : List Call) (l : Ledger) → l ≡ after g (after g blank before) ks → Kept g before ks (answers_to g (after g blank before) ks) l
kept_more g h before ks l e =
    let s : l ≡ after g blank (before ++ ks) = e ∙ sym (after_join g blank before ks) in
    record {
      promise = promise g h;
      answered = refl;
      stands = s;
      never_late = λ a. subst (λ (x : Ledger). NeverLate (plan g x)) (sym s) ((promise g h).never_late a (before ++ ks));
    }

-- A plan just made: no call yet.
pub kept_none : (g : Meaning) → Laws g → (l : Ledger) → l ≡ blank → Kept g [] [] [] l
kept_none g h l e = kept_more g h [] [] l e

-- The same from channels that earlier calls have left.
pub kept_calls : (g : Meaning) → Laws g → (start : Ledger) (ks : List Call) (l : Ledger) → l ≡ after g start ks → (before : List Call) → start ≡ after g blank before → Kept g before ks (answers_to g start ks) l
kept_calls g h start ks l s before e =
    subst (λ (x : Ledger). Kept g before ks (answers_to g x ks) l) (sym e) (kept_more g h before ks l (s ∙ ap (λ (x : Ledger). after g x ks) e))

-- What holds after n calls keeps the promise, where earlier calls have led to `start`.
pub kept : (g : Meaning) → Laws g → (start : Ledger) (cs : List Call) (old : List Answer) (n : ℕ) (l : Ledger) (rs : List Answer) → SoFar g start cs old n l rs
    → (before : List Call) → start ≡ after g blank before → Kept g before (take n cs) (map reply (take n rs)) l
kept g h start cs old n l rs so before e =
    subst (λ (xs : List Reply). Kept g before (take n cs) xs l) (sym so.answered) (kept_calls g h start (take n cs) l so.stands before e)
