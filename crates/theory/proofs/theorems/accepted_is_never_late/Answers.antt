-- Of an accepted load no claim exceeds its tick, and so no job is late.
use Rattle.theory.proofs.Never.{never_late}
use Rattle.theory.proofs.theorems.accepted_is_never_late.Goals as goal

pub returns : goal.returns
returns g c = λ a. never_late (g.L.Load.meaning c.args.load.now) (g.met.L.Load.lawful c.args.load.now) a.1
