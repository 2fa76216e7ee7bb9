-- One gap and one cost more fit in a u64.
use Rattle.std.proofs.Common.{arith}
use Rattle.loads.proofs.TrainSums.{few_gaps, few_costs}
use Rattle.loads.proofs.train.RampTrain.push.Goals as goal

pub overflow_add-self : goal.overflow_add-self
overflow_add-self c = omega (arith, few_gaps c.args.self.now)

pub overflow_add-self-2 : goal.overflow_add-self-2
overflow_add-self-2 c = omega (arith, few_costs c.args.self.now)
