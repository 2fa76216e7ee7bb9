-- Tasks that are accepted together are accepted one by one: the verdicts on the first of them, on the first two, and so
-- on, refuse none.
use Rattle.std.proofs.Common.{◌≡◌, ℕ, ◌+◌, ◌≤◌, List, [], ◌∷◌, ◌++◌, Some, None, Ok, Err, Option, Result, sym, refl, ap, ◌∙◌, subst, append_assoc, arith}
use Rattle.theory.specs.declared.verdict.Unfit.{Unfit}
use Rattle.theory.specs.Jobs.{All}
use Rattle.theory.specs.Meaning.{Meaning, Laws}
use Rattle.theory.specs.Beside.{beside}
use Rattle.theory.specs.Verdict.{Accepted}
use Rattle.theory.specs.Statements.{Lower}
use Rattle.theory.proofs.Verdicts.{accepted_yes}
use Rattle.theory.proofs.Lower.{accepted_lower}
use Rattle.theory.proofs.BesideLaws.{beside_laws, beside_lower}
use Rattle.loads.specs.Params.{TaskParams, TaskRanges}
use Rattle.loads.specs.Tasks.{total, largest, tasks_meaning, tasks_amounts}
use Rattle.loads.specs.TasksLaws.{tasks_laws}
use Rattle.format.specs.Prefixes.{first_refused}

-- Fewer tasks have smaller amounts.
module _ (f : TaskParams → ℕ) where
  total_front : (xs ys : List TaskParams) → total f xs ≤ total f (xs ++ ys)
  total_front [] ys = omega arith
  total_front (x ∷ xs) ys = omega (arith, total_front xs ys)

  largest_front : (xs ys : List TaskParams) → largest f xs ≤ largest f (xs ++ ys)
  largest_front [] ys = omega arith
  largest_front (x ∷ xs) ys = omega (arith, largest_front xs ys)

front_lower : (xs ys : List TaskParams) → Lower (tasks_meaning xs).amounts (tasks_meaning (xs ++ ys)).amounts
unfolding tasks_meaning tasks_amounts
front_lower xs ys = record { due = λ t. total_front _ xs ys; held = λ t. largest_front _ xs ys; ready = λ s. total_front _ xs ys }

all_front : (xs ys : List TaskParams) → All TaskRanges (xs ++ ys) → All TaskRanges xs
all_front [] ys r = tt
all_front (x ∷ xs) ys r = (r.0, all_front xs ys r.1)

-- Where all the tasks together are accepted, none of them is refused on the way.
module _ (g : Meaning) (lg : Laws g) where
  pub laws_of : (xs : List TaskParams) → All TaskRanges xs → Laws (beside (tasks_meaning xs) g)
  laws_of xs r = beside_laws (tasks_meaning xs) g (tasks_laws xs r) lg

  pub none_refused : (at : ℕ) (pre xs : List TaskParams) → All TaskRanges (pre ++ xs) → Accepted (beside (tasks_meaning (pre ++ xs)) g).amounts → first_refused g at pre xs ≡ None
  unfolding first_refused
  none_refused at pre [] r a = refl
  none_refused at pre (x ∷ xs) r a =
      let front = pre ++ (x ∷ []) in
      let e : pre ++ (x ∷ xs) ≡ front ++ xs = sym (append_assoc pre (x ∷ []) xs) in
      let r' = subst (All TaskRanges) e r in
      let a' = subst (λ (ys : List TaskParams). Accepted (beside (tasks_meaning ys) g).amounts) e a in
      let l = (laws_of front (all_front front xs r')).rules in
      let b : Accepted (beside (tasks_meaning front) g).amounts =
      accepted_lower (beside (tasks_meaning front) g).amounts (beside (tasks_meaning (front ++ xs)) g).amounts l (laws_of (front ++ xs) r').rules
      (beside_lower (tasks_meaning front) (tasks_meaning (front ++ xs)) g (front_lower front xs)) a' in
      let v = accepted_yes (beside (tasks_meaning front) g).amounts l b in
      ap (λ (o : Result ℕ Unfit). let d : Option (Unfit × ℕ) = elim o [ Err u ↦ Some (u, at) | Ok w ↦ first_refused g (at + 37) front xs ] in d) v.1
      ∙ none_refused (at + 37) front xs r' a'
