-- An image that is not read changes nothing, and any image that fills a new plan is written again.
use Rattle.std.proofs.Common.{[], arith}
use Rattle.plan.specs.Ledger.{ledger, guest}
use Rattle.plan.proofs.Turns.{kept_more}
use Rattle.format.proofs.WritesAgain.{writes_again}
use Rattle.image.proofs.fill.fill.Goals as goal

pub returns-in_err-check-clause-kept : goal.returns-in_err-check-clause-kept
returns-in_err-check-clause-kept g c = λ before e. ([], kept_more (g.G.Load.meaning (guest c.args.plan.now)) (g.met.G.Load.lawful (guest c.args.plan.now)) before [] (ledger c.args.plan.now) e)

pub returns-in_err-admit_to-clause-again : goal.returns-in_err-admit_to-clause-again
returns-in_err-admit_to-clause-again g c = writes_again (g.G.Load.meaning (guest c.args.plan.now)) c.args.image.now (λ i. omega (arith, c.type_inv.image i))

pub returns-clause-again : goal.returns-clause-again
returns-clause-again g c = writes_again (g.G.Load.meaning (guest c.args.plan.now)) c.args.image.now (λ i. omega (arith, c.type_inv.image i))
