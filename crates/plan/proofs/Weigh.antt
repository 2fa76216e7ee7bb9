-- The verdict of a change is that on the changed plan, and putting back the old content undoes the change.
use Rattle.std.proofs.Common.{◌≡◌, ℕ, ◌≤◌, false, ltb, get_or, set, Some, None, Option, Result, ap, ◌∙◌}
use Rattle.std.proofs.lemmas.Bool.{le-ltb}
use Rattle.std.proofs.lemmas.List.{set-set, set-get_or}
use Rattle.theory.specs.declared.verdict.Unfit.{Unfit}
use Rattle.theory.specs.Meaning.{Meaning, Laws}
use Rattle.theory.specs.Verdict.{walk, look}
use Rattle.theory.proofs.Walk.{walk_is_look}
use Rattle.loads.specs.declared.refusal.Refusal.{Refusal}
use Rattle.loads.specs.Channels.{Content, Channels, put_at}
use Rattle.plan.specs.Ledger.{Ledger, plan, by_verdict, weighed}

-- The walk's verdict on the channels `s`, which are `l` with `k` in channel c, is the ledger's on the change.
pub judged : (g : Meaning) (s l : Ledger) (c : ℕ) (k : Content) (r : Result ℕ Unfit) → Laws (plan g s) → s ≡ set l c (Some k) → r ≡ walk (plan g s).amounts → by_verdict r ≡ weighed g l c k
judged g s l c k r h q v = ap by_verdict (v ∙ walk_is_look (plan g s).amounts h.rules ∙ ap (λ (x : Ledger). look (plan g x).amounts) q)

-- Putting back what channel c held before gives `l` again.
pub restored : (l s t : Ledger) (c : ℕ) (x old : Option Content) → s ≡ set l c x → old ≡ get_or l c None → t ≡ set s c old → t ≡ l
restored l s t c x old a b d = d ∙ ap (λ (r : Ledger). set r c old) a ∙ ap (λ (o : Option Content). set (set l c x) c o) b ∙ set-set l c x _ ∙ set-get_or l c None

-- What putting gives: an answer, and the channels after it.
abbrev Put : Type 0
Put = Result (Unit {0}) Refusal × Channels

-- In a channel of at most 63, what is put stands.
pub put_stands : (l s : Ledger) (c : ℕ) (h : Option Content) (r : Result (Unit {0}) Refusal) → c ≤ 63 → ◌≡◌ {A = Put} (r, s) (put_at l c h) → s ≡ set l c h
put_stands l s c h r b e = let t : ltb 63 c ≡ false = le-ltb 63 c b in ap (λ (p : Put). p.1) (rw t at e)

-- Both of what the code puts. The channels are `l` before something is put into channel c, and `s` after.
module _ (l s : Ledger) (c : ℕ) (b : c ≤ 63) where
  pub judged_put : (g : Meaning) (k : Content) (p : Result (Unit {0}) Refusal) (r : Result ℕ Unfit) → ◌≡◌ {A = Put} (p, s) (put_at l c (Some k)) → Laws (plan g s)
      → r ≡ walk (plan g s).amounts → by_verdict r ≡ weighed g l c k
  judged_put g k p r e h v = judged g s l c k r h (put_stands l s c (Some k) p b e) v

  pub restored_put : (t : Ledger) (x old : Option Content) (p q : Result (Unit {0}) Refusal) → ◌≡◌ {A = Put} (p, s) (put_at l c x) → old ≡ get_or l c None
      → ◌≡◌ {A = Put} (q, t) (put_at s c old) → t ≡ l
  restored_put t x old p q e o f = restored l s t c x old (put_stands l s c x p b e) o (put_stands s t c old q b f)
