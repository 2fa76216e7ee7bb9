-- The tasks of an image one after another, told by the verdicts on the first of them alone, without channels and labels.
use Rattle.std.specs.Prelude.{ℕ, ◌+◌, List, [], ◌∷◌, ◌++◌, map, Some, None, Ok, Err, Option, Result}
use Rattle.theory.specs.declared.verdict.Unfit.{Unfit}
use Rattle.theory.specs.Meaning.{Meaning}
use Rattle.theory.specs.Beside.{beside}
use Rattle.theory.specs.Verdict.{look}
use Rattle.loads.specs.Params.{TaskParams}
use Rattle.loads.specs.Tasks.{tasks_meaning}
use Rattle.plan.specs.Admissions.{Placed}

-- The parameters of the tasks among the records.
abbrev pub params : List Placed → List TaskParams
params ts = map (λ t. t.content.params) ts

-- The verdict on tasks side by side, beside a guest.
abbrev pub weigh : Meaning → List TaskParams → Result ℕ Unfit
weigh g xs = look (beside (tasks_meaning xs) g).amounts

-- After the tasks `pre`, the tasks `xs` come one after another, the first of them at the offset `at`: why and where
-- one is refused first, if any is.
unfoldable pub first_refused : Meaning → ℕ → List TaskParams → List TaskParams → Option (Unfit × ℕ)
first_refused g at pre [] = None
first_refused g at pre (x ∷ xs) = elim (weigh g (pre ++ (x ∷ []))) [
  | Err u ↦ Some (u, at)
  | Ok w ↦ first_refused g (at + 37) (pre ++ (x ∷ [])) xs
]
