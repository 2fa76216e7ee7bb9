use Rattle.std.proofs.Common.{arith}
use Rattle.judge.proofs.RowSteps.{open_more}
use Rattle.judge.proofs.search.fixpoint_in_row.Goals as goal

pub loop-ready-preserved : goal.loop-ready-preserved
loop-ready-preserved g c =
    let o = open_more (g.L.Load.meaning c.args.load.now).amounts (g.met.L.Load.lawful c.args.load.now).rules c.args.w c.loop-ready.ready-index c.loop-ready.at
    c.ready_row-row.result c.ready_row-row.ensures c.loop-ready-test.true c.loop-ready.invariant.0
    c.loop-ready.invariant.1 c.if-ready-at.false c.if-at-eq-LONGEST.false in
    (omega arith, o)
