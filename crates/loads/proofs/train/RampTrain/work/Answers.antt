-- The costs of at most sixteen frames.
use Rattle.std.proofs.Common.{arith}
use Rattle.loads.proofs.TrainSums.{few_costs}
use Rattle.loads.proofs.train.RampTrain.work.Goals as goal

pub returns-clause-small : goal.returns-clause-small
returns-clause-small c = omega (arith, few_costs c.args.self.now)
