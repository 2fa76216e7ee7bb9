-- The laws of two loads side by side, and of no load.
use Rattle.std.proofs.Common.{◌≡◌, ℕ, ◌+◌, ◌⊎◌, List, [], refl, subst, inl, inr, arith}
use Rattle.std.proofs.lemmas.Bool.{or_parts, or_from}
use Rattle.theory.specs.Jobs.{Job, All, Among, Proper, work_in}
use Rattle.theory.specs.Meaning.{Amounts, Rules, Meaning, Laws}
use Rattle.theory.specs.Beside.{Deals, done, left, right, both, beside, nothing}
use Rattle.theory.specs.Verdict.{Accepted}
use Rattle.theory.specs.Statements.{Lower}
use Rattle.theory.proofs.Lower.{accepted_lower}

-- What holds of each job holds of each job dealt out.
deals_all : (P : Job → Type 0) {zs xs ys : List Job} → Deals zs xs ys → All P zs → All P xs × All P ys
deals_all P done h = (tt, tt)
deals_all P (left d) h = let r = deals_all P d h.1 in ((h.0, r.0), r.1)
deals_all P (right d) h = let r = deals_all P d h.1 in (r.0, (h.0, r.1))

deals_work : (u e : ℕ) {zs xs ys : List Job} → Deals zs xs ys → work_in u e zs ≡ work_in u e xs + work_in u e ys
deals_work u e done = refl
deals_work u e (left d) = let r = deals_work u e d in omega arith
deals_work u e (right d) = let r = deals_work u e d in omega arith

deals_among : (k : Job) {zs xs ys : List Job} → Deals zs xs ys → Among k zs → Among k xs ⊎ Among k ys
deals_among k done a = absurd a
deals_among k (left d) (inl e) = inl (inl e)
deals_among k (left d) (inr a) = elim (deals_among k d a) [ inl l ↦ inl (inr l) | inr r ↦ inr r ]
deals_among k (right d) (inl e) = inr (inl e)
deals_among k (right d) (inr a) = elim (deals_among k d a) [ inl l ↦ inl l | inr r ↦ inr (inr r) ]

module _ (a b : Amounts) (la : Rules a) (lb : Rules b) where
  both_rules : Rules (both a b)
  unfolding both
  both_rules = record {
    due_zero = omega (arith, la.due_zero, lb.due_zero);
    due_mono = λ s t h. omega (arith, la.due_mono s t h, lb.due_mono s t h);
    ready_mono = λ s t h. omega (arith, la.ready_mono s t h, lb.ready_mono s t h);
    mark_zero = or_from (a.mark 0) (b.mark 0) la.mark_zero lb.mark_zero;
    due_still = λ t h. let p = or_parts (a.mark (t + 1)) (b.mark (t + 1)) h in omega (arith, la.due_still t p.0, lb.due_still t p.1);
    held_still = λ t h. let p = or_parts (a.mark (t + 1)) (b.mark (t + 1)) h in omega (arith, la.held_still t p.0, lb.held_still t p.1);
    sum_mono = λ s t h. omega (arith, la.sum_mono s t h, lb.sum_mono s t h, la.due_mono s t h, lb.due_mono s t h);
    shift = λ s t h. omega (arith, la.shift s t h, lb.shift s t h);
  }

pub beside_laws : (a b : Meaning) → Laws a → Laws b → Laws (beside a b)
unfolding beside both
beside_laws a b la lb = record {
  rules = both_rules a.amounts b.amounts la.rules lb.rules;
  within = λ js w p u t.
      let s = deals_all Proper p.2 w in
      omega (arith, deals_work u (u + t) p.2, la.within p.0 s.0 p.3 u t, lb.within p.1 s.1 p.4 u t);
  beside_held = λ js w p u t z k m r d i n.
      let s = deals_all Proper p.2 w in
      let e = deals_work u (u + t) p.2 in
      elim (deals_among k p.2 m) [
        | inl l ↦ omega (arith, la.beside_held p.0 s.0 p.3 u t z k l r d i n, lb.within p.1 s.1 p.4 u t)
        | inr l ↦ omega (arith, lb.beside_held p.1 s.1 p.4 u t z k l r d i n, la.within p.0 s.0 p.3 u t)
      ];
}

nothing_work : (u e : ℕ) (js : List Job) → js ≡ [] → work_in u e js ≡ 0
nothing_work u e js q = rw q

nothing_among : (k : Job) (js : List Job) → js ≡ [] → Among k js → ⊥
nothing_among k js q m = subst (Among k) q m

pub nothing_laws : Laws nothing
unfolding nothing
nothing_laws = record {
  rules = record {
    due_zero = refl;
    due_mono = λ s t h. omega arith;
    ready_mono = λ s t h. omega arith;
    mark_zero = refl;
    due_still = λ t h. refl;
    held_still = λ t h. refl;
    sum_mono = λ s t h. omega arith;
    shift = λ s t h. omega arith;
  };
  within = λ js w p u t. omega (arith, nothing_work u (u + t) js p);
  beside_held = λ js w p u t z k m r d i n. absurd (nothing_among k js p m);
}

-- Each of two loads has amounts of at most those of both side by side.
pub left_lower : (a b : Meaning) → Lower a.amounts (beside a b).amounts
unfolding beside both
left_lower a b = record { due = λ t. omega arith; held = λ t. omega arith; ready = λ s. omega arith }

pub right_lower : (a b : Meaning) → Lower b.amounts (beside a b).amounts
unfolding beside both
right_lower a b = record { due = λ t. omega arith; held = λ t. omega arith; ready = λ s. omega arith }

-- Beside the same load, smaller amounts make smaller amounts.
pub beside_lower : (a b m : Meaning) → Lower a.amounts b.amounts → Lower (beside a m).amounts (beside b m).amounts
unfolding beside both
beside_lower a b m h = record { due = λ t. omega (arith, h.due t); held = λ t. omega (arith, h.held t); ready = λ s. omega (arith, h.ready s) }

pub parts_accepted : (a b : Meaning) → Laws a → Laws b → Accepted (beside a b).amounts → Accepted a.amounts × Accepted b.amounts
parts_accepted a b la lb h =
    let r = (beside_laws a b la lb).rules in (
      accepted_lower a.amounts (beside a b).amounts la.rules r (left_lower a b) h,
      accepted_lower b.amounts (beside a b).amounts lb.rules r (right_lower a b) h,
    )
