-- The theorems of `Verdicts`, all together.
use Rattle.theory.proofs.Verdicts.{verdicts}
use Rattle.theory.proofs.theorems.verdicts_agree.Goals as goal

pub returns : goal.returns
returns c = verdicts
