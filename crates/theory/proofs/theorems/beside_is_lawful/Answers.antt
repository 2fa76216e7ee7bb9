-- The laws of two loads side by side, and that each is accepted where both together are.
use Rattle.theory.proofs.BesideLaws.{beside_laws, parts_accepted}
use Rattle.theory.proofs.theorems.beside_is_lawful.Goals as goal

pub returns : goal.returns
returns g c =
    let a = g.A.Load.meaning c.args.a.now in
    let b = g.B.Load.meaning c.args.b.now in
    let la = g.met.A.Load.lawful c.args.a.now in
    let lb = g.met.B.Load.lawful c.args.b.now in
    record { laws = beside_laws a b la lb; parts = parts_accepted a b la lb }
