use Rattle.std.proofs.Common.{◌-◌}
use Rattle.plancheck.specs.Input.{received}
use Rattle.plancheck.proofs.Held.{SoFar}
use Rattle.plancheck.proofs.Known.{KnownSoFar}
use Rattle.plancheck.proofs.input.Input.read_from.Given as goal

abbrev pub invariant-loop-input : goal.invariant-loop-input
invariant-loop-input g l = record {
  told : SoFar g.S.Source.gave l.initial.source (received l.input) l.source;
  known : KnownSoFar g.S.Source.gave l.initial.source (received l.input) l.source;
}

abbrev pub decreases-loop-input : goal.decreases-loop-input
decreases-loop-input g l = 4096 - l.input.count
