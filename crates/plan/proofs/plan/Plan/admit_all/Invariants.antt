use Rattle.std.proofs.Common.{◌≡◌, ◌-◌, map}
use Rattle.plan.specs.Ledger.{ledger, guest}
use Rattle.plan.specs.Admissions.{placed}
use Rattle.plan.proofs.Halving.{Halving}
use Rattle.plan.proofs.plan.Plan.admit_all.Given as goal

-- The first `kept` are granted and stand, and one at `until` is refused if those before it are granted.
abbrev pub invariant-loop-kept : goal.invariant-loop-kept
invariant-loop-kept g l = record {
  same : guest l.self ≡ guest l.initial.self;
  halving : Halving (g.G.Load.meaning (guest l.initial.self)) (ledger l.initial.self) (map placed l.entries) l.kept l.until l.why l.busy (ledger l.self);
}

abbrev pub decreases-loop-kept : goal.decreases-loop-kept
decreases-loop-kept g l = l.until - l.kept
