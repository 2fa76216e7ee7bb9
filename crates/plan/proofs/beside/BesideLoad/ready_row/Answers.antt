-- The rows of both loads, added up.
use Rattle.std.proofs.Common.{◌+◌, arith}
use Rattle.theory.specs.Beside.{beside, both}
use Rattle.plan.proofs.beside.BesideLoad.ready_row.Goals as goal

pub returns : goal.returns
unfolding beside both
returns g c =
    let a = (g.A.Load.meaning c.args.self.now.first).amounts in
    let b = (g.B.Load.meaning c.args.self.now.second).amounts in
    c.join_rows.ensures a.ready b.ready (λ t. a.ready t + b.ready t) c.args.from (λ t r e. omega arith) c.ready_row.ensures c.ready_row-2.ensures
