use Rattle.std.proofs.Common.{◌≡◌}
use Rattle.plan.specs.Ledger.{ledger, guest}
use Rattle.plan.proofs.Turns.{SoFar}
use Rattle.plan.proofs.plan.Plan.carry_out.Given as goal

-- The guest stays, and n calls are carried out.
abbrev pub invariant-loop-n : goal.invariant-loop-n
invariant-loop-n g l = record {
  same : guest l.self ≡ guest l.initial.self;
  so_far : SoFar (g.G.Load.meaning (guest l.initial.self)) (ledger l.initial.self) l.calls l.initial.answers l.n (ledger l.self) l.answers;
}
