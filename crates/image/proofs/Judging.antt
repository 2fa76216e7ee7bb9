-- From the answers of the calls that the verdict makes to the verdict of an image.
use Rattle.std.proofs.Common.{◌≡◌, ℕ, max, List, [], Some, None, Ok, Err, Option, Result, sym, ap, ◌∙◌, zero-add, arith}
use Rattle.std.specs.Option.{unwrap_or}
use Rattle.theory.specs.declared.verdict.Unfit.{Unfit}
use Rattle.theory.specs.Meaning.{Amounts, Rules, Meaning, Laws}
use Rattle.theory.specs.Beside.{beside, both}
use Rattle.theory.specs.Verdict.{busy, walk}
use Rattle.theory.proofs.Verdicts.{accepted_ok}
use Rattle.theory.proofs.Walk.{walk_is_look}
use Rattle.loads.specs.Params.{TaskParams}
use Rattle.loads.specs.Tasks.{tasks_meaning, tasks_amounts}
use Rattle.loads.specs.Channels.{Channels, blank}
use Rattle.loads.specs.Train.{train_meaning}
use Rattle.loads.proofs.Fewer.{none_filled}
use Rattle.plan.specs.Ledger.{plan, refusal_of}
use Rattle.plan.specs.Admissions.{InTurn, in_turn}
use Rattle.plan.proofs.BusyTold.{look_closes, nothing_told, busy_told}
use Rattle.format.specs.declared.fault.RecordFault.{RecordFault}
use Rattle.format.specs.declared.fault.PlanFault.{PlanFault}
use Rattle.format.specs.declared.fault.PlanFault.TheVariants.{Record, Refused}
use Rattle.format.specs.Records.{Rec}
use Rattle.format.specs.Decode.{decode, tasks_in, frames_in}
use Rattle.format.specs.Fills.{AdmittedTo, told_at, filled_by, task_offset, admitted_to, KeptAgain}
use Rattle.image.specs.Verdict.{first_frame, busy_or_zero, over_plan, over_train, over_records, judged, YesMeans}

-- The verdict of an image: the busy period, or the first fault.
abbrev Judged : Type 0
Judged = Result ℕ PlanFault

-- An image that is not read.
pub unread : (xs : List ℕ) (e : RecordFault) → Err e ≡ decode xs → ◌≡◌ {A = Result ℕ PlanFault} (Err (Record e)) (judged xs)
unfolding judged
unread xs e d = ap over_records d

-- No tasks beside a load change nothing.
none_beside : (g : Meaning) → (beside (tasks_meaning []) g).amounts ≡ g.amounts
unfolding beside both tasks_meaning tasks_amounts
none_beside g = λ i. record {
  due = λ t. zero-add (g.amounts.due t) i;
  held = λ t. max_zero (g.amounts.held t) i;
  ready = λ s. zero-add (g.amounts.ready s) i;
  mark = g.amounts.mark;
}
  where
    max_zero : (n : ℕ) → max 0 n ≡ n
    max_zero n = omega arith

-- So a plan without tasks has its guest's busy period.
blank_busy : (g : Meaning) → busy (plan g blank).amounts ≡ busy g.amounts
blank_busy g = ap (λ (ps : List TaskParams). busy (beside (tasks_meaning ps) g).amounts) (none_filled 64) ∙ ap busy (none_beside g)

-- A yes closes at the busy period that it names.
pub yes_closes : (m : Amounts) → Rules m → (w : ℕ) → Ok w ≡ walk m → busy m ≡ Some w
yes_closes m l w e = look_closes m w (sym (e ∙ walk_is_look m l))

-- Where no task is refused, nothing is told by an offset.
all_granted : (rs : List Rec) (x : InTurn) (o : Option ℕ) (l : Channels) → ◌≡◌ {A = AdmittedTo} (Ok o, l) (told_at rs x) → ◌≡◌ {A = InTurn} (Ok o, l) x
all_granted rs (Ok p, m) o l e =
    let q : ◌≡◌ {A = Result (Option ℕ) PlanFault} (Ok o) (Ok p) = ap (λ (y : AdmittedTo). y.0) e in
    let r : o ≡ p = cc in
    λ i. (Ok (r i), ap (λ (y : AdmittedTo). y.1) e i)
all_granted rs (Err p, m) o l e = let q : ◌≡◌ {A = Result (Option ℕ) PlanFault} (Ok o) (Err (Refused p.1 (task_offset 0 p.0 rs))) = ap (λ (y : AdmittedTo). y.0) e in cc

module _ (xs : List ℕ) (rs : List Rec) (d : decode xs ≡ Ok rs) (lg : Laws (train_meaning (frames_in rs))) where
  -- The verdict on the train alone, as the judge has walked it.
  walked : (r : Result ℕ Unfit) → r ≡ walk (train_meaning (frames_in rs)).amounts → judged xs ≡ over_train rs r
  unfolding judged
  walked r e = ap over_records d ∙ ap (over_train rs) (sym e)

  -- The train is refused.
  pub train_refused : (u : Unfit) → Err u ≡ walk (train_meaning (frames_in rs)).amounts → ◌≡◌ {A = Result ℕ PlanFault} (Err (Refused (refusal_of u) (first_frame 0 rs))) (judged xs)
  train_refused u e = sym (walked (Err u) e)

  -- The train is accepted, and the tasks are admitted over it.
  module _ (w : ℕ) (e : Ok w ≡ walk (train_meaning (frames_in rs)).amounts) where
    pub task_refused : (f : PlanFault) (l : Channels) → ◌≡◌ {A = AdmittedTo} (Err f, l) (admitted_to (train_meaning (frames_in rs)) rs blank) → ◌≡◌ {A = Result ℕ PlanFault} (Err f) (judged xs)
    task_refused f l a = sym (walked (Ok w) e ∙ ap (over_plan (train_meaning (frames_in rs))) (ap filled_by (sym a)))

    closes : (o : Option ℕ) (l : Channels) → ◌≡◌ {A = InTurn} (Ok o, l) (in_turn (train_meaning (frames_in rs)) 0 None (tasks_in rs) blank) → busy (plan (train_meaning (frames_in rs)) l).amounts ≡ Some (unwrap_or o w)
    closes None l q =
        let g = train_meaning (frames_in rs) in
        ap (λ (m : Channels). busy (plan g m).amounts) (nothing_told g (tasks_in rs) blank l q) ∙ blank_busy g ∙ yes_closes g.amounts lg.rules w e
    closes (Some v) l q = busy_told (train_meaning (frames_in rs)) (tasks_in rs) blank l v q

    pub all_admitted : (o : Option ℕ) (l : Channels) → ◌≡◌ {A = AdmittedTo} (Ok o, l) (admitted_to (train_meaning (frames_in rs)) rs blank) → KeptAgain (train_meaning (frames_in rs)) [] l
        → ◌≡◌ {A = Result ℕ PlanFault} (Ok (unwrap_or o w)) (judged xs) × YesMeans xs (unwrap_or o w)
    all_admitted o l a k =
        let g = train_meaning (frames_in rs) in
        let c = closes o l (all_granted rs (in_turn g 0 None (tasks_in rs) blank) o l a) in
        let all = ap filled_by (sym a) in (
          sym (walked (Ok w) e ∙ ap (over_plan g) all ∙ ap (λ (b : Option ℕ). let j : Judged = Ok (busy_or_zero b) in j) c),
          record { records = rs; read = d; ledger = l; admitted_all = all; closes = c; never_late = k.1.never_late (accepted_ok g.amounts lg.rules w e) },
        )
