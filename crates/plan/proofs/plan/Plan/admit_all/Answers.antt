-- Each turn grants a part of what is left, or finds a nearer task that is refused; at the end none is left before it.
use Rattle.std.proofs.Common.{◌≡◌, ℕ, ◌-◌, ◌<◌, ◌≤◌, List, map, length, take, drop, None, Ok, Err, Option, Result, sym, ap, ◌∙◌, subst, arith}
use Rattle.loads.specs.declared.refusal.Refusal.{Refusal}
use Rattle.loads.specs.Channels.{blank}
use Rattle.plan.specs.declared.call.Call.{Call}
use Rattle.plan.specs.Ledger.{ledger, guest, after, answers_to}
use Rattle.plan.specs.Admissions.{Placed, placed, InTurn, in_turn, tried, admits}
use Rattle.plan.specs.Together.{AllGranted, Together}
use Rattle.plan.specs.Promise.{Kept}
use Rattle.plan.proofs.InTurn.{in_turn_calls}
use Rattle.plan.proofs.Turns.{kept_calls}
use Rattle.plan.proofs.Halving.{part_placed, half_granted, half_refused, answered, halving_end}
use Rattle.plan.proofs.plan.Plan.admit_all.Goals as goal
use Rattle.plan.proofs.plan.Plan.admit_all.Goals.{in-None, in-Some, Joined-why, After-loop-kept, In-None-why, In-Some-why}
use Rattle.plan.proofs.plan.Plan.admit_all.Given.{Over}

-- What is tried is some of what is left.
some : (g : Over) (c : Joined-why g) → (c.loop-kept.kept < c.match-why.end) × (c.match-why.end ≤ c.loop-kept.until)
some g c = elim c.match-why.branch [
  | in-None w ↦ (omega (arith, w.end-is, c.loop-kept-test.true), omega (arith, w.end-is))
  | in-Some w ↦ (omega (arith, w.end-is, w.div_ceil.ensures, c.loop-kept-test.true), omega (arith, w.end-is, w.div_ceil.ensures, c.loop-kept-test.true))
]

pub loop-kept-preserved-in-Ok : goal.loop-kept-preserved-in-Ok
loop-kept-preserved-in-Ok g c =
    let m = g.G.Load.meaning in
    let i = c.loop-kept.invariant in
    let es = c.args.entries.now in
    let t = some g (goal.at.loop-kept-preserved-in-Ok g c).Joined-why in
    let n = c.match-why.end - c.loop-kept.kept in
    let l = ledger c.loop-kept.self in
    let new = ledger c.admit_together.new.self in
    let p = subst (λ x. AllGranted (m x) l (map placed (take n (drop c.loop-kept.kept es))) c.in-Ok.w new) i.same c.in-Ok.ensures.says in
    let q = subst (λ (xs : List Placed). AllGranted (m (guest c.args.self.now)) l xs c.in-Ok.w new) (part_placed n c.loop-kept.kept es) p in
    record { same = c.admit_together.ensures.guest ∙ i.same; halving = half_granted _ _ _ _ _ _ _ _ i.halving c.match-why.end t.0 t.1 c.in-Ok.w new q }

pub loop-kept-preserved : goal.loop-kept-preserved
loop-kept-preserved g c =
    let m = g.G.Load.meaning in
    let i = c.loop-kept.invariant in
    let es = c.args.entries.now in
    let t = some g (goal.at.loop-kept-preserved g c).Joined-why in
    let n = c.match-why.end - c.loop-kept.kept in
    let l = ledger c.loop-kept.self in
    let new = ledger c.admit_together.new.self in
    let r : ℕ × Refusal = (c.in-Err.place, c.in-Err.refusal) in
    let p = subst (λ x. Together (m x) l (map placed (take n (drop c.loop-kept.kept es))) (Err r) new) i.same c.in-Err.ensures.says in
    let q = subst (λ (xs : List Placed). Together (m (guest c.args.self.now)) l xs (Err r) new) (part_placed n c.loop-kept.kept es) p in
    record { same = c.admit_together.ensures.guest ∙ i.same; halving = half_refused _ _ _ _ _ _ _ _ i.halving c.match-why.end t.0 t.1 r new q }

-- What is left to say where the loop ends, of the answer as it leaves it.
module _ (g : Over) (c : After-loop-kept g) (r : Result (Option ℕ) (ℕ × Refusal)) (e : r ≡ answered c.loop-kept.until c.loop-kept.why c.loop-kept.busy) where
  says : ◌≡◌ {A = InTurn} (r, ledger c.loop-kept.self) (in_turn (g.G.Load.meaning (guest c.args.self.now)) 0 None (map placed c.args.entries.now) (ledger c.args.self.now))
  says = ap (λ (r : Result (Option ℕ) (ℕ × Refusal)). let t : InTurn = (r, ledger c.loop-kept.self) in t) e ∙ halving_end _ _ _ _ _ _ _ _ c.loop-kept.invariant.halving c.loop-kept-test.false

  calls : ledger c.loop-kept.self ≡ after (g.G.Load.meaning (guest c.args.self.now)) (ledger c.args.self.now) (admits (take (tried (length c.args.entries.now) r) c.args.entries.now))
  calls = in_turn_calls (g.G.Load.meaning (guest c.args.self.now)) None c.args.entries.now (ledger c.args.self.now) (r, ledger c.loop-kept.self) says

  kept : (before : List Call) → ledger c.args.self.now ≡ after (g.G.Load.meaning (guest c.args.self.now)) blank before
      → Kept (g.G.Load.meaning (guest c.args.self.now)) before (admits (take (tried (length c.args.entries.now) r) c.args.entries.now))
      (answers_to (g.G.Load.meaning (guest c.args.self.now)) (ledger c.args.self.now) (admits (take (tried (length c.args.entries.now) r) c.args.entries.now))) (ledger c.loop-kept.self)
  kept = kept_calls (g.G.Load.meaning (guest c.args.self.now)) (g.met.G.Load.lawful (guest c.args.self.now)) (ledger c.args.self.now) _ (ledger c.loop-kept.self) calls

-- The answer where nothing is refused, and where something is.
granted : (g : Over) (c : In-None-why g) → Ok c.loop-kept.busy ≡ answered c.loop-kept.until c.loop-kept.why c.loop-kept.busy
granted g c = ap (λ o. answered c.loop-kept.until o c.loop-kept.busy) (sym c.in-None-why.is)

refused : (g : Over) (c : In-Some-why g) → Err (c.loop-kept.until, c.in-Some-why.refusal) ≡ answered c.loop-kept.until c.loop-kept.why c.loop-kept.busy
refused g c = ap (λ o. answered c.loop-kept.until o c.loop-kept.busy) (sym c.in-Some-why.is)

pub returns-in-None-why-clause-says : goal.returns-in-None-why-clause-says
returns-in-None-why-clause-says g c = says g (goal.at.returns-in-None-why-clause-says g c).After-loop-kept _ (granted g c)

pub returns-in-None-why-clause-calls : goal.returns-in-None-why-clause-calls
returns-in-None-why-clause-calls g c = calls g (goal.at.returns-in-None-why-clause-calls g c).After-loop-kept _ (granted g c)

pub returns-in-None-why-clause-kept : goal.returns-in-None-why-clause-kept
returns-in-None-why-clause-kept g c = kept g (goal.at.returns-in-None-why-clause-kept g c).After-loop-kept _ (granted g c)

pub returns-in-Some-why-clause-says : goal.returns-in-Some-why-clause-says
returns-in-Some-why-clause-says g c = says g (goal.at.returns-in-Some-why-clause-says g c).After-loop-kept _ (refused g c)

pub returns-in-Some-why-clause-calls : goal.returns-in-Some-why-clause-calls
returns-in-Some-why-clause-calls g c = calls g (goal.at.returns-in-Some-why-clause-calls g c).After-loop-kept _ (refused g c)

pub returns-in-Some-why-clause-kept : goal.returns-in-Some-why-clause-kept
returns-in-Some-why-clause-kept g c = kept g (goal.at.returns-in-Some-why-clause-kept g c).After-loop-kept _ (refused g c)
