-- The loop of the audit is the look, from the last tick below the busy period downwards.
use Rattle.std.proofs.Common.{◌-◌, None, sym, refl, ◌∙◌, arith, rules}
use Rattle.theory.proofs.Verdicts.{look_open}
use Rattle.judge.proofs.Steps.{short, uncut, look_over, look_ended, look_worse, look_same, look_unmarked}
use Rattle.judge.proofs.look.audit.Goals as goal
use Rattle.judge.proofs.look.audit.Goals.{else-claimed-t-via-then-claimed-t+else-is_mark, else-claimed-t-via-else-claimed-t}

pub returns-in_err-busy : goal.returns-in_err-busy
returns-in_err-busy g c =
    let unclosed = look_open (g.L.Load.meaning c.args.load.now).amounts (sym c.in_err-busy.ensures.ok_part ∙ c.busy_period.ensures) in
    search rules

pub loop-t-init : goal.loop-t-init
loop-t-init g c = refl

pub claim_at-claimed-requires : goal.claim_at-claimed-requires
claim_at-claimed-requires g c =
    let m = (g.L.Load.meaning c.args.load.now).amounts in
    let l = (g.met.L.Load.lawful c.args.load.now).rules in
    let w = c.in_ok-busy.busy in
    let closed = sym c.in_ok-busy.ensures.ok_part ∙ c.busy_period.ensures in
    record { within = omega (arith, short m l w closed); uncut = uncut m l w closed (c.loop-t.t - 1) (omega arith) }

pub is_mark-requires : goal.is_mark-requires
is_mark-requires g c =
    omega (arith, short (g.L.Load.meaning c.args.load.now).amounts (g.met.L.Load.lawful c.args.load.now).rules c.in_ok-busy.busy (sym c.in_ok-busy.ensures.ok_part ∙ c.busy_period.ensures))

pub returns-then-is_mark : goal.returns-then-is_mark
returns-then-is_mark g c =
    let m = (g.L.Load.meaning c.args.load.now).amounts in
    let l = (g.met.L.Load.lawful c.args.load.now).rules in
    let found = look_worse m c.loop-t.t _ c.loop-t.invariant (omega arith) c.claim_at-claimed.result c.if-is_mark.ensures c.claim_at-claimed.ensures c.if-claimed-t.true in
    look_over m l c.in_ok-busy.busy (sym c.in_ok-busy.ensures.ok_part ∙ c.busy_period.ensures) _ found

pub loop-t-preserved : goal.loop-t-preserved
loop-t-preserved g c =
    let m = (g.L.Load.meaning c.args.load.now).amounts in
    elim c.else-claimed-t.branch [
      | else-claimed-t-via-then-claimed-t+else-is_mark w ↦ look_unmarked m c.loop-t.t _ c.loop-t.invariant (omega arith) w.if-is_mark.ensures
      | else-claimed-t-via-else-claimed-t w ↦ look_same m c.loop-t.t _ c.loop-t.invariant (omega arith) c.claim_at-claimed.result c.claim_at-claimed.ensures w.if-claimed-t.false
    ]

pub returns : goal.returns
returns g c =
    let m = (g.L.Load.meaning c.args.load.now).amounts in
    let l = (g.met.L.Load.lawful c.args.load.now).rules in
    look_over m l c.in_ok-busy.busy (sym c.in_ok-busy.ensures.ok_part ∙ c.busy_period.ensures) None (look_ended m c.loop-t.t _ c.loop-t.invariant (omega arith))
