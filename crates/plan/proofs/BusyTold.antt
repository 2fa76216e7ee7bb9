-- The busy period that is told of several tasks is that of the plan as it stands then.
use Rattle.std.proofs.Common.{◌≡◌, ℕ, suc, List, [], ◌∷◌, Some, None, Ok, Err, Option, Result, sym, refl, ap, subst}
use Rattle.theory.specs.Meaning.{Meaning, Amounts}
use Rattle.theory.specs.Verdict.{busy, look, over, found}
use Rattle.loads.specs.declared.refusal.Refusal.{Refusal}
use Rattle.plan.specs.Ledger.{Ledger, plan, admitted}
use Rattle.plan.specs.Admissions.{Placed, InTurn, in_turn}
use Rattle.plan.specs.Together.{put_one}
use Rattle.plan.proofs.Reach.{admitted_ok, verdict_ok}
use Rattle.plan.proofs.InTurn.{by_first}

-- A yes tells the busy period.
found_closes : (v w : ℕ) (o : Option (ℕ × ℕ)) → found v o ≡ Ok w → Some v ≡ Some w
found_closes v w None e = let q : v ≡ w = cc in ap (λ (x : ℕ). Some x) q
found_closes v w (Some p) e = cc

over_closes : (b : Option ℕ) (seek : ℕ → Option (ℕ × ℕ)) (w : ℕ) → over b seek ≡ Ok w → b ≡ Some w
over_closes None seek w e = cc
over_closes (Some v) seek w e = found_closes v w (seek v) e

pub look_closes : (m : Amounts) (w : ℕ) → look m ≡ Ok w → busy m ≡ Some w
unfolding look
look_closes m w e = over_closes (busy m) _ w e

-- Nothing is told where nothing was admitted, and the ledger is as at the start; else the plan's busy period is.
Told : Meaning → Ledger → Result (Option ℕ) (ℕ × Refusal) → Ledger → Type 0
Told g start (Ok None) l = l ≡ start
Told g start (Ok (Some w)) l = busy (plan g l).amounts ≡ Some w
Told g start (Err p) l = Unit {0}

answers_told : (g : Meaning) (start : Ledger) (n : ℕ) (o : Option ℕ) (xs : List Placed) (l : Ledger) → Told g start (Ok o) l → Told g start (in_turn g n o xs l).0 (in_turn g n o xs l).1
unfolding in_turn Told
answers_told g start n o [] l h = h
answers_told g start n o (x ∷ xs) l h = go (admitted g l x.channel x.content) refl (λ w. answers_told g start (suc n) (Some w) xs (put_one l x))
  where
    go : (r : Result ℕ Refusal) → admitted g l x.channel x.content ≡ r
        → ((w : ℕ) → Told g start (Ok (Some w)) (put_one l x) → Told g start (in_turn g (suc n) (Some w) xs (put_one l x)).0 (in_turn g (suc n) (Some w) xs (put_one l x)).1)
        → Told g start (by_first g n x xs l r).0 (by_first g n x xs l r).1
    go (Err e) q ih = tt
    go (Ok w) q ih =
        let m = (plan g (put_one l x)).amounts in
        ih w (look_closes m w (verdict_ok (look m) w (admitted_ok g l x.channel x.content w q).1))

module _ (g : Meaning) (xs : List Placed) (start l : Ledger) where
  pub nothing_told : ◌≡◌ {A = InTurn} (Ok None, l) (in_turn g 0 None xs start) → l ≡ start
  unfolding Told
  nothing_told e = subst (λ (x : InTurn). Told g start x.0 x.1) (sym e) (answers_told g start 0 None xs start refl)

  pub busy_told : (w : ℕ) → ◌≡◌ {A = InTurn} (Ok (Some w), l) (in_turn g 0 None xs start) → busy (plan g l).amounts ≡ Some w
  unfolding Told
  busy_told w e = subst (λ (x : InTurn). Told g start x.0 x.1) (sym e) (answers_told g start 0 None xs start refl)
