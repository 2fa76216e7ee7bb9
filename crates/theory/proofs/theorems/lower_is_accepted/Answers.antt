-- The theorem of `Lower`.
use Rattle.theory.proofs.Lower.{accepted_lower}
use Rattle.theory.proofs.theorems.lower_is_accepted.Goals as goal

pub returns : goal.returns
returns c = accepted_lower
