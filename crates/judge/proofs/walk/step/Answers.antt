use Rattle.judge.proofs.Steps.{step_down, step_last}
use Rattle.judge.proofs.walk.step.Goals as goal

pub returns-then-claimed-t-2 : goal.returns-then-claimed-t-2
returns-then-claimed-t-2 g c = step_down (g.L.Load.meaning c.args.load.now).amounts c.args.t _ c.claim_at-claimed.ensures c.if-claimed-t-2.true

pub returns : goal.returns
returns g c = step_last (g.L.Load.meaning c.args.load.now).amounts c.args.t _ c.claim_at-claimed.ensures _ c.requires.within c.if-claimed-t.false c.if-claimed-t-2.false c.last_mark.ensures
