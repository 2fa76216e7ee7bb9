-- Every plan keeps its promise: the answers of admit and replace are exact, and over an accepted guest no job is late.
use Rattle.std.proofs.Common.{◌≡◌, ℕ, false, ltb, ◌↔◌, set, Some, None, Ok, Err, Option, Result, sym, refl, ◌∙◌, subst, arith}
use Rattle.std.proofs.lemmas.Bool.{le-ltb}
use Rattle.theory.specs.declared.verdict.Unfit.{Unfit}
use Rattle.theory.specs.declared.verdict.Unfit.TheVariants as unfit
use Rattle.theory.specs.Meaning.{Meaning, Amounts, Rules, Laws}
use Rattle.theory.specs.Verdict.{busy, look, look_below, found}
use Rattle.theory.specs.Statements.{NoClaimExceeds}
use Rattle.theory.proofs.Walk.{walk_is_look}
use Rattle.theory.proofs.Verdicts.{yes_exactly, late_exactly, look_at, look_open, verdicts}
use Rattle.theory.proofs.Never.{never_late}
use Rattle.loads.specs.declared.refusal.Refusal.TheVariants.{NotClosed, Late}
use Rattle.loads.specs.Channels.{blank, content}
use Rattle.loads.specs.declared.entry.Entry.{Entry}
use Rattle.loads.specs.Ranged.{Ranged, set_ranged, task_ranged}
use Rattle.plan.specs.declared.call.Call.{Call}
use Rattle.plan.specs.declared.call.Call.TheVariants.{Admit, Replace, Retire, Read}
use Rattle.plan.specs.Ledger.{Ledger, plan, by_verdict, Reply, granted, refused, done_or_refused, answer_to, after}
use Rattle.plan.specs.Promise.{Closes, SomeClaimExceeds, ReachesVerdict, changed, Exact, Promise}
use Rattle.plan.proofs.Reach.{after_ranged, plan_laws, after_fits}

-- What each verdict on amounts says of them.
Says : Amounts → Result ℕ Unfit → Type 0
Says m (Ok w) = Closes m × NoClaimExceeds m
Says m (Err unfit.NotClosed) = Closes m → ⊥
Says m (Err (unfit.Late p)) = Closes m × SomeClaimExceeds m

-- The look's verdict says it.
module _ (m : Amounts) (l : Rules m) where
  says_open : busy m ≡ None → Says m (look m)
  unfolding Says
  says_open b = subst (Says m) (look_open m (sym b)) (λ c. let e = c.1 in cc)

  says_found : (w : ℕ) → busy m ≡ Some w → (o : Option (ℕ × ℕ)) → look m ≡ found w o → Says m (found w o)
  unfolding Says
  says_found w b None q = ((w, b), (yes_exactly m l w b).0 (walk_is_look m l ∙ q))
  says_found w b (Some p) q =
      let x = (late_exactly m l w b p.0 p.1).0 (walk_is_look m l ∙ q) in
      ((w, b), (p.0, omega (arith, x.exceeds, x.is_claim)))

  says_closed : (w : ℕ) → busy m ≡ Some w → Says m (look m)
  says_closed w b = subst (Says m) (sym (look_at m w b)) (says_found w b (look_below m w) (look_at m w b))

  says : Says m (look m)
  says = go (busy m) refl
    where
      go : (o : Option ℕ) → busy m ≡ o → Says m (look m)
      go None b = says_open b
      go (Some w) b = says_closed w b

-- The three equivalences of `Exact`, for any amounts and any reply.
abbrev ExactReply : Amounts → Reply → Type 0
ExactReply m a =
    ((a ≡ refused NotClosed) ↔ (Closes m → ⊥))
    × (((p : ℕ × ℕ) × (a ≡ refused (Late p))) ↔ (Closes m × SomeClaimExceeds m))
    × ((a ≡ granted) ↔ (Closes m × NoClaimExceeds m))

exact_reply : (m : Amounts) (r : Result ℕ Unfit) → Says m r → ExactReply m (done_or_refused granted (by_verdict r))
unfolding Says
exact_reply m (Ok w) s = (
  (λ e. cc, λ n. absurd (n s.0)),
  (λ e. let q = e.1 in cc, λ y. absurd (omega (arith, y.1.1, s.1 y.1.0))),
  (λ e. s, λ y. refl),
)
exact_reply m (Err unfit.NotClosed) s = (
  (λ e. s, λ y. refl),
  (λ e. let q = e.1 in cc, λ y. absurd (s y.0)),
  (λ e. cc, λ y. absurd (s y.0)),
)
exact_reply m (Err (unfit.Late p)) s = (
  (λ e. cc, λ n. absurd (n s.0)),
  (λ e. s, λ y. (p, refl)),
  (λ e. cc, λ y. absurd (omega (arith, s.1.1, y.1 s.1.0))),
)

-- A call that reaches the verdict is answered by it.
by_the_verdict : (g : Meaning) (l : Ledger) (k : Call) → ReachesVerdict l k → answer_to g l k ≡ done_or_refused granted (by_verdict (look (changed g l k)))
by_the_verdict g l (Admit c e) h = let b : ltb 63 c ≡ false = le-ltb 63 c h.1 in rw (h.0, b, h.2)
by_the_verdict g l (Replace c e) h = let b : ltb 63 c ≡ false = le-ltb 63 c h.1 in rw (h.0, b, h.2.1)
by_the_verdict g l (Retire c) h = absurd h
by_the_verdict g l (Read c) h = absurd h

-- Putting a task into a channel keeps the rules.
put_rules : (g : Meaning) → Laws g → (l : Ledger) (c : ℕ) (e : Entry) → Ranged l → Rules (plan g (set l c (Some (content e)))).amounts
put_rules g h l c e r = (plan_laws g h (set l c (Some (content e))) (set_ranged l c (Some (content e)) (task_ranged e.task) r)).rules

changed_rules : (g : Meaning) → Laws g → (l : Ledger) (k : Call) → Ranged l → Rules (changed g l k)
changed_rules g h l (Admit c e) r = put_rules g h l c e r
changed_rules g h l (Replace c e) r = put_rules g h l c e r
changed_rules g h l (Retire c) r = (plan_laws g h l r).rules
changed_rules g h l (Read c) r = (plan_laws g h l r).rules

exact : (g : Meaning) → Laws g → (l : Ledger) (k : Call) → Ranged l → ReachesVerdict l k → Exact g l k
exact g h l k r t =
    let x : ExactReply (changed g l k) (answer_to g l k) = subst (ExactReply (changed g l k)) (sym (by_the_verdict g l k t)) (exact_reply (changed g l k) (look (changed g l k)) (says (changed g l k) (changed_rules g h l k r))) in
    record { unclosed = x.0; late = x.1; granted = x.2 }

pub promise : (g : Meaning) → Laws g → Promise g
promise g h = record {
  verdicts = verdicts;
  exact = λ earlier k. exact g h (after g blank earlier) k (after_ranged g earlier);
  never_late = λ a ks. never_late (plan g (after g blank ks)) (plan_laws g h (after g blank ks) (after_ranged g ks)) (after_fits g h a ks).1;
}
