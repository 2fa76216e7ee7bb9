-- Tasks that are accepted together over a train, or any other guest, are accepted one by one too, and the busy period told
-- is that of all of them.
use Rattle.std.proofs.Common.{◌≡◌, ℕ, [], List, Some, None, Ok, Err, Option, Result, sym, ap, ◌∙◌}
use Rattle.theory.specs.declared.verdict.Unfit.{Unfit}
use Rattle.theory.specs.Jobs.{All}
use Rattle.theory.specs.Meaning.{Meaning, Laws}
use Rattle.theory.specs.Beside.{beside}
use Rattle.theory.specs.Verdict.{busy, walk}
use Rattle.theory.proofs.Verdicts.{accepted_ok}
use Rattle.loads.specs.Params.{TaskParams, TaskRanges}
use Rattle.loads.specs.Tasks.{tasks_meaning}
use Rattle.loads.specs.Refusals.{refusal_of}
use Rattle.format.specs.declared.fault.PlanFault.{PlanFault}
use Rattle.format.specs.declared.fault.PlanFault.TheVariants.{Refused}
use Rattle.format.specs.Prefixes.{first_refused}
use Rattle.format.proofs.Prefixes.{laws_of, none_refused}
use Rattle.image.specs.Verdict.{busy_or_zero}
use Rattle.image.proofs.Judging.{yes_closes}

-- The verdict on tasks over an accepted guest, told by them alone: why and where a task is refused first, or else the
-- busy period of all of them beside the guest.
abbrev pub by_first : Meaning → List TaskParams → Option (Unfit × ℕ) → Result ℕ PlanFault
by_first g ps None = Ok (busy_or_zero (busy (beside (tasks_meaning ps) g).amounts))
by_first g ps (Some p) = Err (Refused (refusal_of p.0) p.1)

abbrev pub one_by_one : Meaning → List TaskParams → Result ℕ PlanFault
one_by_one g ps = by_first g ps (first_refused g 0 [] ps)

-- Tasks that are accepted together.
pub together : (g : Meaning) → Laws g → (ps : List TaskParams) → All TaskRanges ps → (w : ℕ) → Ok w ≡ walk (beside (tasks_meaning ps) g).amounts
    → ◌≡◌ {A = Result ℕ PlanFault} (Ok w) (one_by_one g ps)
together g lg ps r w e =
    let m = (beside (tasks_meaning ps) g).amounts in
    let l = (laws_of g lg ps r).rules in
    ap (λ (o : Option ℕ). let j : Result ℕ PlanFault = Ok (busy_or_zero o) in j) (sym (yes_closes m l w e))
    ∙ ap (by_first g ps) (sym (none_refused g lg 0 [] ps r (accepted_ok m l w e)))
