-- An emptied channel lowers the amounts, and lower amounts are accepted.
use Rattle.std.proofs.Common.{set, None}
use Rattle.theory.specs.Beside.{beside}
use Rattle.theory.proofs.Lower.{accepted_lower}
use Rattle.theory.proofs.BesideLaws.{beside_laws, beside_lower}
use Rattle.loads.specs.Channels.{filled, table}
use Rattle.loads.specs.TasksLaws.{tasks_laws}
use Rattle.loads.proofs.Fewer.{fewer}
use Rattle.loads.specs.Ranged.{set_ranged}
use Rattle.loads.proofs.theorems.emptied_channel_keeps.Goals as goal

pub returns : goal.returns
returns g c = λ l ranged ch.
    let guest = g.G.Load.meaning c.args.guest.now in
    let laws = g.met.G.Load.lawful c.args.guest.now in
    let less = set l ch None in
    let before = beside_laws (table l) guest (tasks_laws (filled l) ranged) laws in
    let after = beside_laws (table less) guest (tasks_laws (filled less) (set_ranged l ch None tt ranged)) laws in
    accepted_lower (beside (table less) guest).amounts (beside (table l) guest).amounts after.rules before.rules (beside_lower (table less) (table l) guest (fewer l ch))
