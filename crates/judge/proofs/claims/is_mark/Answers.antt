-- A tick is a mark exactly where it is the last mark below the next tick.
use Rattle.std.proofs.Common.{◌∙◌}
use Rattle.judge.proofs.Questions.{mark_is_last}
use Rattle.judge.proofs.claims.is_mark.Goals as goal

pub returns : goal.returns
returns g c = c.eq.ensures ∙ mark_is_last (g.L.Load.meaning c.args.load.now).amounts.mark c.args.t c.last_mark.result c.requires c.last_mark.ensures
