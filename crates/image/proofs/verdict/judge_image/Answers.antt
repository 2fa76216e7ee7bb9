-- The verdict of an image, from the reading of it, the verdict on its train alone and the admitting of its tasks.
use Rattle.std.proofs.Common.{◌≡◌, ℕ, List, [], Ok, Err, Option, Result, sym, ap, ◌∙◌, subst, rules}
use Rattle.std.specs.Option.{unwrap_or}
use Rattle.std.specs.Result.{MatchResult}
use Rattle.std.proofs.lemmas.Result.{err_from_is_err_and}
use Rattle.theory.specs.Meaning.{Laws}
use Rattle.theory.specs.Verdict.{walk}
use Rattle.loads.specs.Params.{FrameParams}
use Rattle.loads.specs.Train.{frames_of, train_meaning}
use Rattle.loads.specs.TrainRanges.{frames_ranged}
use Rattle.loads.specs.TrainLaws.{train_laws}
use Rattle.plan.specs.Ledger.{refusal_of}
use Rattle.plan.proofs.MapErr.{ok_kept, err_told}
use Rattle.format.specs.declared.fault.PlanFault.{PlanFault}
use Rattle.format.specs.declared.fault.PlanFault.TheVariants.{Refused}
use Rattle.loads.specs.Channels.{blank}
use Rattle.format.specs.Decode.{frames_in}
use Rattle.format.specs.Fills.{AdmittedTo, admitted_to, KeptAgain}
use Rattle.image.specs.Verdict.{first_frame, YesMeans}
use Rattle.image.specs.Whole.{records_of}
use Rattle.image.proofs.Judging.{unread, train_refused, task_refused, all_admitted}
use Rattle.image.proofs.verdict.judge_image.Goals as goal
use Rattle.image.proofs.verdict.judge_image.Goals.{After-train-train, After-judge, In_ok-alone}

pub returns-in_err-checked-clause-says : goal.returns-in_err-checked-clause-says
returns-in_err-checked-clause-says c =
    let p = err_from_is_err_and c.from_residual.result c.from_residual.ensures.1 in
    rw (p.1, p.2) (unread c.args.image.now c.in_err-checked.field-0.0 c.in_err-checked.ensures)

-- The laws of the train of the frames that were read.
laws : (c : After-train-train) → Laws (train_meaning (frames_in (records_of c.in_ok-checked.checked)))
laws c = subst (λ (fs : List FrameParams). Laws (train_meaning fs)) c.train-train.ensures (train_laws (frames_of c.train-train.result) (frames_ranged c.train-train.result))

-- The judge's walk is that of their train.
walked : (c : After-judge) → c.judge.result ≡ walk (train_meaning (frames_in (records_of c.in_ok-checked.checked))).amounts
walked c = c.judge.ensures ∙ ap (λ (fs : List FrameParams). walk (train_meaning fs).amounts) c.train-train.ensures

pub returns-in_err-alone-clause-says : goal.returns-in_err-alone-clause-says
returns-in_err-alone-clause-says c =
    let d = (goal.at.returns-in_err-alone-clause-says c).After-train-train in
    let j = (goal.at.returns-in_err-alone-clause-says c).After-judge in
    let p = err_from_is_err_and c.from_residual-in_err-alone.result c.from_residual-in_err-alone.ensures.1 in
    let q = c.in_err-alone.field-0.0 in
    let f : MatchResult c.judge.result (λ w. ◌≡◌ {A = Result ℕ PlanFault} (Err q) (Ok w)) (λ u. q ≡ Refused (refusal_of u) c.first_frame-at.result) = search rules in
    let t = err_told c.judge.result (λ u. Refused (refusal_of u) c.first_frame-at.result) q f in
    let e : q ≡ Refused (refusal_of t.0) (first_frame 0 (records_of c.in_ok-checked.checked)) = t.2 ∙ ap (Refused (refusal_of t.0)) c.first_frame-at.ensures in
    rw (p.1, p.2, e) (train_refused c.args.image.now (records_of c.in_ok-checked.checked) (sym c.in_ok-checked.ensures) (laws d) t.0 (sym t.1 ∙ walked j))

-- The train alone is accepted.
accepted : (c : In_ok-alone) → c.judge.result ≡ walk (train_meaning (frames_in (records_of c.in_ok-checked.checked))).amounts
    → Ok c.in_ok-alone.alone ≡ walk (train_meaning (frames_in (records_of c.in_ok-checked.checked))).amounts
accepted c w = sym (ok_kept PlanFault c.judge.result c.in_ok-alone.alone c.in_ok-alone.ensures.cases) ∙ w

-- What admitting the tasks answers and leaves, by the frames that were read.
abbrev left_by : (c : After-judge) → AdmittedTo
left_by c = admitted_to (train_meaning (frames_in (records_of c.in_ok-checked.checked))) (records_of c.in_ok-checked.checked) blank

told : (c : After-judge) (r : Result (Option ℕ) PlanFault)
    → r ≡ (admitted_to (train_meaning (frames_of c.train-train.result)) (records_of c.in_ok-checked.checked) blank).0 → ◌≡◌ {A = AdmittedTo} (r, (left_by c).1) (left_by c)
told c r e = ap (λ (x : Result (Option ℕ) PlanFault). let y : AdmittedTo = (x, (left_by c).1) in y) (e ∙ ap (λ (fs : List FrameParams). (admitted_to (train_meaning fs) (records_of c.in_ok-checked.checked) blank).0) c.train-train.ensures)

pub returns-in_err-with_tasks-clause-says : goal.returns-in_err-with_tasks-clause-says
returns-in_err-with_tasks-clause-says c =
    let at = goal.at.returns-in_err-with_tasks-clause-says c in
    let p = err_from_is_err_and c.from_residual-in_err-with_tasks.result c.from_residual-in_err-with_tasks.ensures.1 in
    let q = c.in_err-with_tasks.field-0.0 in
    rw (p.1, p.2) (task_refused c.args.image.now (records_of c.in_ok-checked.checked) (sym c.in_ok-checked.ensures) (laws at.After-train-train) c.in_ok-alone.alone (accepted at.In_ok-alone (walked at.After-judge))
    q (left_by at.After-judge).1 (told at.After-judge (Err q) c.in_err-with_tasks.ensures.says))

kept : (c : After-judge) → KeptAgain (train_meaning (frames_of c.train-train.result)) [] (admitted_to (train_meaning (frames_of c.train-train.result)) (records_of c.in_ok-checked.checked) blank).1
    → KeptAgain (train_meaning (frames_in (records_of c.in_ok-checked.checked))) [] (left_by c).1
kept c = subst (λ (fs : List FrameParams). KeptAgain (train_meaning fs) [] (admitted_to (train_meaning fs) (records_of c.in_ok-checked.checked) blank).1) c.train-train.ensures

-- All tasks are admitted.
pub returns-clause-says : goal.returns-clause-says
returns-clause-says c =
    let at = goal.at.returns-clause-says c in
    rw c.unwrap_or.ensures (all_admitted c.args.image.now (records_of c.in_ok-checked.checked) (sym c.in_ok-checked.ensures) (laws at.After-train-train) c.in_ok-alone.alone (accepted at.In_ok-alone (walked at.After-judge))
    c.in_ok-with_tasks.with_tasks (left_by at.After-judge).1 (told at.After-judge (Ok c.in_ok-with_tasks.with_tasks) c.in_ok-with_tasks.ensures.says) (kept at.After-judge c.admit_over.ensures.kept)).0

pub returns-clause-safe : goal.returns-clause-safe
returns-clause-safe c = λ w e.
    let at = goal.at.returns-clause-safe c in
    let same : unwrap_or c.in_ok-with_tasks.with_tasks c.in_ok-alone.alone ≡ w = sym c.unwrap_or.ensures ∙ cc in
    subst (YesMeans c.args.image.now) same
    (all_admitted c.args.image.now (records_of c.in_ok-checked.checked) (sym c.in_ok-checked.ensures) (laws at.After-train-train) c.in_ok-alone.alone (accepted at.In_ok-alone (walked at.After-judge))
    c.in_ok-with_tasks.with_tasks (left_by at.After-judge).1 (told at.After-judge (Ok c.in_ok-with_tasks.with_tasks) c.in_ok-with_tasks.ensures.says) (kept at.After-judge c.admit_over.ensures.kept)).1
