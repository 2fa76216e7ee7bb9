-- The ledger of a plan: what stands in its 64 channels, and what each call answers, from the guest's meaning
-- and the calls' arguments alone.
use Rattle.std.specs.Prelude.{ℕ, cond, List, [], ◌∷◌, Some, None, Ok, Err, Option, Result, nat_lt, slice_index_or, slice_set}
use Rattle.theory.specs.declared.verdict.Unfit.{Unfit}
use Rattle.theory.specs.Meaning.{Meaning}
use Rattle.theory.specs.Beside.{beside}
use Rattle.theory.specs.Verdict.{look}
use Rattle.loads.specs.declared.refusal.Refusal.{Refusal}
use Rattle.loads.specs.declared.refusal.Refusal.TheVariants.{BadLabel, NoChannel, ChannelFilled, ChannelEmpty}
pub use Rattle.loads.specs.Refusals.{refusal_of}
use Rattle.loads.specs.declared.entry.Entry.{Entry}
use Rattle.loads.specs.Channels.{Content, Channels, table, channels, content}
use Rattle.plan.specs.declared.plan.Plan.{Plan}
use Rattle.plan.specs.declared.call.Call.{Call}
use Rattle.plan.specs.declared.call.Call.TheVariants.{Admit, Replace, Retire, Read}
use Rattle.plan.specs.declared.call.Done.{Done}
use Rattle.plan.specs.declared.call.Done.TheVariants as done
use Rattle.plan.specs.Labels.{good_label}

-- 64 channels, each empty or with label and task.
abbrev pub Ledger : Type 0
Ledger = Channels

-- What a plan's own channels hold.
abbrev pub ledger : {G : Type 0} → Plan G → Ledger
ledger p = channels p.loads.first

-- The load beside them.
abbrev pub guest : {G : Type 0} → Plan G → G
guest p = p.loads.second

-- What a plan means: the ledger's tasks beside the guest.
abbrev pub plan : Meaning → Ledger → Meaning
plan g l = beside (table l) g

-- Granted by a yes, with its busy period, and else refused.
abbrev pub by_verdict : Result ℕ Unfit → Result ℕ Refusal
by_verdict (Ok w) = Ok w
by_verdict (Err u) = Err (refusal_of u)

-- The verdict on the plan as it would stand, with `k` in channel c: its busy period where it is granted, or 10, or 11
-- with mark and claim.
abbrev pub weighed : Meaning → Ledger → ℕ → Content → Result ℕ Refusal
weighed g l c k = by_verdict (look (plan g (slice_set l c (Some k))).amounts)

-- What a call answers at a filled channel, and at an empty one.
abbrev pub by_content : {X : Type 0} → Option Content → (Content → Result X Refusal) → Result X Refusal → Result X Refusal
by_content (Some k) filled empty = filled k
by_content None filled empty = empty

-- 7 above channel 63, else by what the channel holds.
abbrev pub at_channel : {X : Type 0} → Ledger → ℕ → (Content → Result X Refusal) → Result X Refusal → Result X Refusal
at_channel l c filled empty = cond (nat_lt 63 c) (Err NoChannel) (by_content (slice_index_or l c None) filled empty)

-- 15 for a bad label, before anything else.
abbrev pub labelled : {X : Type 0} → Content → Result X Refusal → Result X Refusal
labelled k r = cond (good_label k.label) r (Err BadLabel)

-- Admit: 15, 7, 8, then the verdict.
abbrev pub admitted : Meaning → Ledger → ℕ → Content → Result ℕ Refusal
admitted g l c k = labelled k (at_channel l c (λ old. Err ChannelFilled) (weighed g l c k))

-- Replace: 15, 7, 9, then the verdict on the plan without the old task.
abbrev pub replaced : Meaning → Ledger → ℕ → Content → Result ℕ Refusal
replaced g l c k = labelled k (at_channel l c (λ old. weighed g l c k) (Err ChannelEmpty))

-- Retire: 7, 9.
abbrev pub retired : Ledger → ℕ → Result (Unit {0}) Refusal
retired l c = at_channel l c (λ old. Ok tt) (Err ChannelEmpty)

-- Reading: 7, 9, or label and task.
abbrev pub reading : Ledger → ℕ → Result Content Refusal
reading l c = at_channel l c (λ k. Ok k) (Err ChannelEmpty)

-- A call's answer, by plain numbers: `granted` of admit and replace, `vacated` of retire, `found` of a reading, with
-- what the channel holds, and `refused` of any call.
pub data Reply : Type 0 where
  granted : Reply
  vacated : Reply
  found : Content → Reply
  refused : Refusal → Reply

-- The code's answer as such a reply.
abbrev pub reply : Result Done Refusal → Reply
reply (Ok done.Granted) = granted
reply (Ok done.Retired) = vacated
reply (Ok (done.Found e)) = found (content e)
reply (Err r) = refused r

-- The reply that names only whether a call was refused: `good` where it was not.
abbrev pub done_or_refused : {X : Type 0} → Reply → Result X Refusal → Reply
done_or_refused good (Ok x) = good
done_or_refused good (Err r) = refused r

-- The reply to a reading.
abbrev pub found_or_refused : Result Content Refusal → Reply
found_or_refused (Ok k) = found k
found_or_refused (Err r) = refused r

-- The label and task that the code's reading gives, by plain numbers.
abbrev pub read_entry : Result Entry Refusal → Result Content Refusal
read_entry (Ok e) = Ok (content e)
read_entry (Err r) = Err r

-- What the ledger answers to a call.
abbrev pub answer_to : Meaning → Ledger → Call → Reply
answer_to g l (Admit c e) = done_or_refused granted (admitted g l c (content e))
answer_to g l (Replace c e) = done_or_refused granted (replaced g l c (content e))
answer_to g l (Retire c) = done_or_refused vacated (retired l c)
answer_to g l (Read c) = found_or_refused (reading l c)

-- `new` where the call is granted, `old` where it is refused.
abbrev pub if_ok : {X : Type 0} → Result X Refusal → Ledger → Ledger → Ledger
if_ok (Ok x) new old = new
if_ok (Err r) new old = old

-- The ledger after a call: refusals and readings change nothing.
abbrev pub next : Meaning → Ledger → Call → Ledger
next g l (Admit c e) = if_ok (admitted g l c (content e)) (slice_set l c (Some (content e))) l
next g l (Replace c e) = if_ok (replaced g l c (content e)) (slice_set l c (Some (content e))) l
next g l (Retire c) = if_ok (retired l c) (slice_set l c None) l
next g l (Read c) = l

-- The ledger after a list of calls.
abbrev pub after : Meaning → Ledger → List Call → Ledger
after g l [] = l
after g l (k ∷ ks) = after g (next g l k) ks

-- What the ledger answers to a list of calls, one after another.
abbrev pub answers_to : Meaning → Ledger → List Call → List Reply
answers_to g l [] = []
answers_to g l (k ∷ ks) = answer_to g l k ∷ answers_to g (next g l k) ks
