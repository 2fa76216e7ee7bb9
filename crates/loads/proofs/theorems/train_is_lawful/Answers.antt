-- The laws of a train, for frames in their ranges.
use Rattle.loads.specs.TrainLaws.{train_laws}
use Rattle.loads.proofs.theorems.train_is_lawful.Goals as goal

pub returns : goal.returns
returns c = train_laws
