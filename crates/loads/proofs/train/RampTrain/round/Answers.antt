-- The gaps of at most sixteen frames.
use Rattle.std.proofs.Common.{arith}
use Rattle.loads.proofs.TrainSums.{few_gaps}
use Rattle.loads.proofs.train.RampTrain.round.Goals as goal

pub returns-clause-near : goal.returns-clause-near
returns-clause-near c = omega (arith, few_gaps c.args.self.now)
