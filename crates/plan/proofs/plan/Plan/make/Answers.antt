-- A plan just made keeps the promise, for no calls at all.
use Rattle.plan.proofs.Turns.{kept_none}
use Rattle.plan.proofs.plan.Plan.make.Goals as goal

pub returns-clause-kept : goal.returns-clause-kept
returns-clause-kept g c = kept_none (g.G.Load.meaning c.args.load) (g.met.G.Load.lawful c.args.load) _ c.new.ensures
