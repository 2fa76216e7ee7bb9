-- What a plan promises after its making over a guest, whatever calls it has undergone.
use Rattle.std.specs.Prelude.{◌≡◌, ℕ, ◌<◌, ◌≤◌, true, ◌↔◌, List, ◌++◌, Some, None, slice_index_or, slice_set}
use Rattle.theory.specs.Meaning.{Meaning, Amounts, claim}
use Rattle.theory.specs.Verdict.{busy, Accepted}
use Rattle.theory.specs.Statements.{OneVerdict, NeverLate, NoClaimExceeds}
use Rattle.loads.specs.declared.refusal.Refusal.TheVariants.{NotClosed, Late}
use Rattle.loads.specs.Channels.{Content, blank, content}
use Rattle.plan.specs.declared.call.Call.{Call}
use Rattle.plan.specs.declared.call.Call.TheVariants.{Admit, Replace, Retire, Read}
use Rattle.plan.specs.Labels.{good_label}
use Rattle.plan.specs.Ledger.{Ledger, plan, Reply, granted, refused, answer_to, answers_to, after}

-- The busy period closes.
abbrev pub Closes : Amounts → Type 0
Closes m = (w : ℕ) × (busy m ≡ Some w)

-- Some tick, however far out, is exceeded by its claim.
abbrev pub SomeClaimExceeds : Amounts → Type 0
SomeClaimExceeds m = (t : ℕ) × (t < claim m t)

-- The verdict decides the call: it is admit or replace, and neither its label nor its channel is refused. The
-- channel is empty for admit, filled for replace.
abbrev pub ReachesVerdict : Ledger → Call → Type 0
ReachesVerdict l (Admit c e) = (good_label (content e).label ≡ true) × (c ≤ 63) × (slice_index_or l c None ≡ None)
ReachesVerdict l (Replace c e) = (good_label (content e).label ≡ true) × (c ≤ 63) × ((k : Content) × (slice_index_or l c None ≡ Some k))
ReachesVerdict l (Retire c) = ⊥
ReachesVerdict l (Read c) = ⊥

-- The amounts of the changed plan: the ledger's tasks, with the call's task in its channel, beside the guest. For
-- retire and read, which never reach the verdict, it is the plan as it stands.
abbrev pub changed : Meaning → Ledger → Call → Amounts
changed g l (Admit c e) = (plan g (slice_set l c (Some (content e)))).amounts
changed g l (Replace c e) = (plan g (slice_set l c (Some (content e)))).amounts
changed g l (Retire c) = (plan g l).amounts
changed g l (Read c) = (plan g l).amounts

-- Refused with 10 exactly when the changed plan's busy period does not close, as late exactly when it closes
-- and some tick is exceeded by its claim, and granted exactly when it closes and no tick is.
pub record Exact (g : Meaning) (l : Ledger) (k : Call) : Type 0 where
  pub unclosed : (answer_to g l k ≡ refused NotClosed) ↔ (Closes (changed g l k) → ⊥)
  pub late : ((p : ℕ × ℕ) × (answer_to g l k ≡ refused (Late p))) ↔ (Closes (changed g l k) × SomeClaimExceeds (changed g l k))
  pub granted : (answer_to g l k ≡ granted) ↔ (Closes (changed g l k) × NoClaimExceeds (changed g l k))

-- What holds of every plan over a guest that means `g`, after any list of calls since its making.
pub record Promise (g : Meaning) : Type 0 where
  -- judge's and audit's verdicts are one, for every load, and what they say
  pub verdicts : OneVerdict
  -- what admit and replace say, at every ledger that calls can reach
  pub exact : (earlier : List Call) (k : Call) → ReachesVerdict (after g blank earlier) k → Exact g (after g blank earlier) k
  -- over an accepted guest no permitted job is ever late, after every list of calls, the empty one too
  pub never_late : Accepted g.amounts → (ks : List Call) → NeverLate (plan g (after g blank ks))

-- A plan made over a guest that means `g` underwent the calls `before`, and then the calls `ks`, which were
-- answered with `rs` and left its channels as `l`.
pub record Kept (g : Meaning) (before ks : List Call) (rs : List Reply) (l : Ledger) : Type 0 where
  pub promise : Promise g
  -- each call has answered what the ledger answers
  pub answered : rs ≡ answers_to g (after g blank before) ks
  -- the plan holds what the ledger holds
  pub stands : l ≡ after g blank (before ++ ks)
  -- over an accepted guest, none of the jobs that the plan's tasks and the guest permit is late
  pub never_late : Accepted g.amounts → NeverLate (plan g l)
