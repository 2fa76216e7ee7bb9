-- The larger of the rows of both loads.
use Rattle.std.proofs.Common.{max, rules}
use Rattle.theory.specs.Beside.{beside, both}
use Rattle.plan.proofs.beside.BesideLoad.held_row.Goals as goal

pub returns : goal.returns
unfolding beside both
returns g c =
    let a = (g.A.Load.meaning c.args.self.now.first).amounts in
    let b = (g.B.Load.meaning c.args.self.now.second).amounts in
    c.join_rows.ensures a.held b.held (λ t. max (a.held t) (b.held t)) c.args.from (λ t r e. search rules) c.held_row.ensures c.held_row-2.ensures
