-- The claim from the answers to due and held, none of which is cut.
use Rattle.judge.proofs.Questions.{claim_nothing, claim_something}
use Rattle.judge.proofs.claims.claim_at.Goals as goal

pub returns-then-due-eq0 : goal.returns-then-due-eq0
returns-then-due-eq0 g c =
    claim_nothing (g.L.Load.meaning c.args.load.now).amounts c.args.t c.due-due.result c.requires.within c.due-due.ensures c.if-due-eq0.true

pub returns-else-due-eq0 : goal.returns-else-due-eq0
returns-else-due-eq0 g c =
    claim_something (g.L.Load.meaning c.args.load.now).amounts (g.met.L.Load.lawful c.args.load.now).rules c.args.t c.due-due.result c.held.result
    c.requires.within c.requires.uncut c.due-due.ensures c.held.ensures c.if-due-eq0.false
