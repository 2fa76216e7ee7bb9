use Rattle.std.proofs.Common.{refl, ◌∙◌, arith}
use Rattle.loads.proofs.Stepping.{first_next, first_most, first_reached}
use Rattle.loads.proofs.steps.Steps.new.Goals as goal

pub invariant_of-result : goal.invariant_of-result
invariant_of-result c = record {
  full = refl;
  cut = λ i. first_most 256 c.min.result 1099511627776 i (omega arith);
  inside = omega arith;
  flat = λ i h. first_next 256 c.min.result i h;
}

pub returns : goal.returns
returns c = λ i h. first_reached 256 c.min.result i (omega arith) ∙ c.min.ensures
