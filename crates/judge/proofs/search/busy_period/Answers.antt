-- The search finds the busy period, or shows that it does not close.
use Rattle.judge.proofs.LeastFixpoint.{idle, works, search_closed, search_gone, search_on, search_further}
use Rattle.judge.proofs.search.busy_period.Goals as goal

pub returns-then-ready-eq0 : goal.returns-then-ready-eq0
returns-then-ready-eq0 g c = idle (g.L.Load.meaning c.args.load.now).amounts c.ready.result c.ready.ensures c.if-ready-eq0.true

pub returns-then-next-gt-LONGEST : goal.returns-then-next-gt-LONGEST
returns-then-next-gt-LONGEST g c =
    search_gone (g.L.Load.meaning c.args.load.now).amounts (g.met.L.Load.lawful c.args.load.now).rules c.loop-w.w c.ready-next.result
    c.loop-w.invariant c.ready-next.ensures (works (g.L.Load.meaning c.args.load.now).amounts c.ready.result c.ready.ensures c.if-ready-eq0.false) c.if-next-gt-LONGEST.true

pub fixpoint_in_row-w-requires-clause-open : goal.fixpoint_in_row-w-requires-clause-open
fixpoint_in_row-w-requires-clause-open g c =
    (search_on (g.L.Load.meaning c.args.load.now).amounts (g.met.L.Load.lawful c.args.load.now).rules c.loop-w.w c.ready-next.result
    c.loop-w.invariant c.ready-next.ensures c.if-next-w.false c.if-next-gt-LONGEST.false).2

pub loop-w-preserved-then-is_slow : goal.loop-w-preserved-then-is_slow
loop-w-preserved-then-is_slow g c =
    let m = (g.L.Load.meaning c.args.load.now).amounts in
    let s = search_on m (g.met.L.Load.lawful c.args.load.now).rules c.loop-w.w c.ready-next.result c.loop-w.invariant c.ready-next.ensures c.if-next-w.false c.if-next-gt-LONGEST.false in
    search_further m c.ready-next.result c.fixpoint_in_row-w.result s c.fixpoint_in_row-w.ensures.onward c.fixpoint_in_row-w.ensures.within c.fixpoint_in_row-w.ensures.open c.fixpoint_in_row-w.ensures.passed

pub loop-w-preserved : goal.loop-w-preserved
loop-w-preserved g c =
    search_on (g.L.Load.meaning c.args.load.now).amounts (g.met.L.Load.lawful c.args.load.now).rules c.loop-w.w c.ready-next.result
    c.loop-w.invariant c.ready-next.ensures c.if-next-w.false c.if-next-gt-LONGEST.false

pub returns : goal.returns
returns g c =
    search_closed (g.L.Load.meaning c.args.load.now).amounts (g.met.L.Load.lawful c.args.load.now).rules c.loop-w.w c.ready-next.result
    c.loop-w.invariant c.ready-next.ensures (works (g.L.Load.meaning c.args.load.now).amounts c.ready.result c.ready.ensures c.if-ready-eq0.false) c.if-next-w.true
