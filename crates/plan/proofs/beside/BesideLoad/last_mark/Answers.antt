-- The last mark of either load.
use Rattle.std.proofs.Common.{min}
use Rattle.theory.specs.Beside.{beside, both}
use Rattle.theory.proofs.LastMark.{last_either}
use Rattle.plan.proofs.beside.BesideLoad.last_mark.Goals as goal

pub returns : goal.returns
unfolding beside both
returns g c =
    let e = last_either (g.A.Load.meaning c.args.self.now.first).amounts.mark (g.B.Load.meaning c.args.self.now.second).amounts.mark (min c.args.t 100000000) in cc
