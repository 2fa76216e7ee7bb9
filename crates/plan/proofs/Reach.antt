-- Every ledger that calls can reach has its tasks in range, and over an accepted guest its plan is accepted.
use Rattle.std.proofs.Common.{◌≡◌, ℕ, zero, suc, Bool, true, false, cond, ltb, ◌⊎◌, List, [], ◌∷◌, get_or, set, replicate, Some, None, Ok, Err, Option, Result, sym, refl, ap, ◌∙◌, subst, inl, inr, arith}
use Rattle.theory.specs.declared.verdict.Unfit.{Unfit}
use Rattle.theory.specs.Meaning.{Meaning, Laws}
use Rattle.theory.specs.Beside.{beside, both}
use Rattle.theory.specs.Verdict.{look, Accepted}
use Rattle.theory.specs.Statements.{Lower}
use Rattle.theory.proofs.Walk.{walk_is_look}
use Rattle.theory.proofs.Verdicts.{accepted_ok}
use Rattle.theory.proofs.BesideLaws.{beside_laws, beside_lower}
use Rattle.theory.proofs.Lower.{accepted_lower}
use Rattle.loads.specs.declared.refusal.Refusal.{Refusal}
use Rattle.loads.specs.declared.refusal.Refusal.TheVariants.{BadLabel, NoChannel, ChannelFilled, ChannelEmpty}
use Rattle.loads.specs.declared.entry.Entry.{Entry}
use Rattle.loads.specs.Params.{TaskParams}
use Rattle.loads.specs.Tasks.{tasks_meaning, tasks_amounts}
use Rattle.loads.specs.Channels.{Content, filled, table, blank, content}
use Rattle.loads.specs.TasksLaws.{tasks_laws}
use Rattle.loads.proofs.Fewer.{fewer, none_filled}
use Rattle.loads.specs.Ranged.{Ranged, blank_ranged, set_ranged, task_ranged}
use Rattle.plan.specs.declared.call.Call.{Call}
use Rattle.plan.specs.declared.call.Call.TheVariants.{Admit, Replace, Retire, Read}
use Rattle.plan.specs.Labels.{good_label}
use Rattle.plan.specs.Ledger.{Ledger, plan, by_verdict, weighed, by_content, admitted, replaced, retired, if_ok, next, after}

-- The label is good, and the verdict on the changed plan is yes.
abbrev pub Passes : Meaning → Ledger → ℕ → Content → ℕ → Type 0
Passes g l c k w = (good_label k.label ≡ true) × (weighed g l c k ≡ Ok w)

-- The checks of admit, and then those of replace, over what they look at: where they grant, the label is good and the
-- verdict grants.
in_empty : (good above : Bool) (held : Option Content) (r : Result ℕ Refusal) (u : ℕ)
    → cond good (cond above (Err NoChannel) (by_content held (λ _. Err ChannelFilled) r)) (Err BadLabel) ≡ Ok u → (good ≡ true) × (r ≡ Ok u)
in_empty true false None r u q = (refl, q)
in_empty true false (Some k) r u q = cc
in_empty true true held r u q = cc
in_empty false above held r u q = cc

in_filled : (good above : Bool) (held : Option Content) (r : Result ℕ Refusal) (u : ℕ)
    → cond good (cond above (Err NoChannel) (by_content held (λ _. r) (Err ChannelEmpty))) (Err BadLabel) ≡ Ok u → (good ≡ true) × (r ≡ Ok u)
in_filled true false (Some k) r u q = (refl, q)
in_filled true false None r u q = cc
in_filled true true held r u q = cc
in_filled false above held r u q = cc

pub admitted_ok : (g : Meaning) (l : Ledger) (c : ℕ) (k : Content) (u : ℕ) → admitted g l c k ≡ Ok u → Passes g l c k u
admitted_ok g l c k u q = in_empty (good_label k.label) (ltb 63 c) (get_or l c None) (weighed g l c k) u q

replaced_ok : (g : Meaning) (l : Ledger) (c : ℕ) (k : Content) (u : ℕ) → replaced g l c k ≡ Ok u → Passes g l c k u
replaced_ok g l c k u q = in_filled (good_label k.label) (ltb 63 c) (get_or l c None) (weighed g l c k) u q

-- P is kept by both changes that a call can make: a channel filled, with a good label and a yes, and a channel emptied.
pub record Keeps (g : Meaning) (P : Ledger → Type 0) : Type 0 where
  pub fills : (l : Ledger) (c : ℕ) (e : Entry) (u : ℕ) → P l → good_label (content e).label ≡ true → weighed g l c (content e) ≡ Ok u → P (set l c (Some (content e)))
  pub empties : (l : Ledger) (c : ℕ) → P l → P (set l c None)

module _ (g : Meaning) (P : Ledger → Type 0) (k : Keeps g P) where
  -- P holds of what a call leaves, changed or not.
  either : {X : Type 0} (r : Result X Refusal) (new old : Ledger) → ((x : X) → r ≡ Ok x → P new) → P old → P (if_ok r new old)
  either (Ok x) new old f h = f x refl
  either (Err e) new old f h = h

  next_keeps : (l : Ledger) (call : Call) → P l → P (next g l call)
  next_keeps l (Admit c e) h =
      either (admitted g l c (content e)) (set l c (Some (content e))) l (λ u q. let p = admitted_ok g l c (content e) u q in k.fills l c e u h p.0 p.1) h
  next_keeps l (Replace c e) h =
      either (replaced g l c (content e)) (set l c (Some (content e))) l (λ u q. let p = replaced_ok g l c (content e) u q in k.fills l c e u h p.0 p.1) h
  next_keeps l (Retire c) h = either (retired l c) (set l c None) l (λ u q. k.empties l c h) h
  next_keeps l (Read c) h = h

  -- Every list of calls keeps P.
  pub after_keeps : (l : Ledger) (ks : List Call) → P l → P (after g l ks)
  after_keeps l [] h = h
  after_keeps l (call ∷ ks) h = after_keeps (next g l call) ks (next_keeps l call h)

-- The ranges are kept.
pub ranged_keeps : (g : Meaning) → Keeps g Ranged
ranged_keeps g = record {
  fills = λ l c e u h p q. set_ranged l c (Some (content e)) (task_ranged e.task) h;
  empties = λ l c h. set_ranged l c None tt h;
}

pub after_ranged : (g : Meaning) (ks : List Call) → Ranged (after g blank ks)
after_ranged g ks = after_keeps g Ranged (ranged_keeps g) blank ks (blank_ranged 64)

pub plan_laws : (g : Meaning) → Laws g → (l : Ledger) → Ranged l → Laws (plan g l)
plan_laws g h l r = beside_laws (table l) g (tasks_laws (filled l) r) h

pub verdict_ok : (r : Result ℕ Unfit) (w : ℕ) → by_verdict r ≡ Ok w → r ≡ Ok w
verdict_ok (Ok v) w e = let q : v ≡ w = cc in ap (λ (x : ℕ). Ok x) q
verdict_ok (Err x) w e = cc

no_task_lower : (g : Meaning) → Lower (beside (tasks_meaning []) g).amounts g.amounts
unfolding beside both tasks_meaning tasks_amounts
no_task_lower g = record { due = λ t. omega arith; held = λ t. omega arith; ready = λ s. omega arith }

blank_lower : (g : Meaning) → Lower (plan g blank).amounts g.amounts
blank_lower g = subst (λ (xs : List TaskParams). Lower (beside (tasks_meaning xs) g).amounts g.amounts) (sym (none_filled 64)) (no_task_lower g)

set_blank : (n c : ℕ) → set (replicate {A = Option Content} n None) c None ≡ replicate n None
set_blank zero c = refl
set_blank (suc n) zero = refl
set_blank (suc n) (suc c) = ap (λ (l : Ledger). None ∷ l) (set_blank n c)

module _ (g : Meaning) (lg : Laws g) where
  -- The plan with these channels is accepted.
  abbrev pub Fits : Ledger → Type 0
  Fits l = Accepted (plan g l).amounts

  -- The verdict on the changed plan lets only an accepted plan in.
  pub weighed_fits : (l : Ledger) (c : ℕ) (k : Content) (u : ℕ) → Ranged (set l c (Some k)) → weighed g l c k ≡ Ok u → Fits (set l c (Some k))
  weighed_fits l c k u r q =
      let m = (plan g (set l c (Some k))).amounts in
      let h = (plan_laws g lg (set l c (Some k)) r).rules in
      accepted_ok m h u (sym (walk_is_look m h ∙ verdict_ok (look m) u q))

  -- Removing a task only lowers the amounts.
  pub retired_fits : (l : Ledger) (c : ℕ) → Ranged l → Fits l → Fits (set l c None)
  retired_fits l c r h =
      accepted_lower (plan g (set l c None)).amounts (plan g l).amounts (plan_laws g lg (set l c None) (set_ranged l c None tt r)).rules (plan_laws g lg l r).rules (beside_lower (table (set l c None)) (table l) g (fewer l c)) h

  abbrev RangedFits : Ledger → Type 0
  RangedFits l = Ranged l × Fits l

  fits_keeps : Keeps g RangedFits
  fits_keeps = record {
    fills = λ l c e u h p q. let r = (ranged_keeps g).fills l c e u h.0 p q in (r, weighed_fits l c (content e) u r q);
    empties = λ l c h. ((ranged_keeps g).empties l c h.0, retired_fits l c h.0 h.1);
  }

  -- Over an accepted guest the plan is accepted after every list of calls.
  pub after_fits : Accepted g.amounts → (ks : List Call) → Accepted (plan g (after g blank ks)).amounts
  after_fits h ks =
      let r = blank_ranged 64 in
      (after_keeps g RangedFits fits_keeps blank ks (r, accepted_lower (plan g blank).amounts g.amounts (plan_laws g lg blank r).rules lg.rules (blank_lower g) h)).1

  -- Over any guest, the plan is accepted or has no task.
  abbrev Stands : Ledger → Type 0
  Stands l = Ranged l × (Fits l ⊎ (l ≡ blank))

  stands_keeps : Keeps g Stands
  stands_keeps = record {
    fills = λ l c e u h p q. let r = (ranged_keeps g).fills l c e u h.0 p q in (r, inl (weighed_fits l c (content e) u r q));
    empties = λ l c h. ((ranged_keeps g).empties l c h.0, go l c h.0 h.1);
  }
    where
      go : (l : Ledger) (c : ℕ) → Ranged l → Fits l ⊎ (l ≡ blank) → Fits (set l c None) ⊎ (set l c None ≡ blank)
      go l c r (inl a) = inl (retired_fits l c r a)
      go l c r (inr e) = inr (ap (λ (x : Ledger). set x c None) e ∙ set_blank 64 c)

  pub after_stands : (ks : List Call) → Accepted (plan g (after g blank ks)).amounts ⊎ (after g blank ks ≡ blank)
  after_stands ks = (after_keeps g Stands stands_keeps blank ks (blank_ranged 64, inr refl)).1
