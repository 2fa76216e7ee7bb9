use Rattle.std.proofs.Common.{◌≡◌, map, take}
use Rattle.plan.specs.Ledger.{ledger, guest}
use Rattle.plan.specs.Admissions.{placed}
use Rattle.plan.specs.Together.{put_all, EachVacant}
use Rattle.plan.proofs.plan.Plan.put_in.Given as goal

-- The first n are in, each after its checks.
abbrev pub invariant-loop-n : goal.invariant-loop-n
invariant-loop-n g l = record {
  same : guest l.self ≡ guest l.initial.self;
  vacant : EachVacant (ledger l.initial.self) (take l.n-counter (map placed l.entries));
  put : ledger l.self ≡ put_all (ledger l.initial.self) (take l.n-counter (map placed l.entries));
}
