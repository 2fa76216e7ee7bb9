use Rattle.loads.specs.Train.{train_amounts, frames_of}
use Rattle.loads.proofs.train.load.RampTrainLoad.due_row.Goals as goal

pub returns : goal.returns
unfolding train_amounts
returns c = c.cut_row.ensures.row (train_amounts (frames_of c.args.self.now)).due c.row_of-answers.ensures
