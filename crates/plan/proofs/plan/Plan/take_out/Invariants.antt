use Rattle.std.proofs.Common.{◌≡◌, map, take}
use Rattle.plan.specs.Ledger.{Ledger, ledger, guest}
use Rattle.plan.specs.Admissions.{placed}
use Rattle.plan.specs.Together.{put_all, EachVacant}
use Rattle.plan.proofs.plan.Plan.take_out.Given as goal

-- The first n are still in.
abbrev pub invariant-loop-n : goal.invariant-loop-n
invariant-loop-n g l = record {
  same : guest l.self ≡ guest l.initial.self;
  left : (o : Ledger) → EachVacant o (map placed l.entries) → ledger l.initial.self ≡ put_all o (map placed l.entries) → ledger l.self ≡ put_all o (take l.n (map placed l.entries));
}
