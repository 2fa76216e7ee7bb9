-- The loop of the judge is the walk: each step, and each row of ticks passed, keeps the verdict on what is left to look at.
use Rattle.std.proofs.Common.{◌≡◌, ◌<◌, ◌≤◌, Some, subst, sym, ap, ◌∙◌, arith, rules}
use Rattle.theory.specs.Verdict.{busy}
use Rattle.theory.proofs.Verdicts.{walk_open}
use Rattle.judge.proofs.Steps.{Going, left, short, uncut, go_start, go_step, go_late, go_kept, go_none}
use Rattle.judge.proofs.walk.judge.Given.{Over}
use Rattle.judge.proofs.walk.judge.Goals as goal
use Rattle.judge.proofs.walk.judge.Goals.{In_ok-busy, In-Some, In_ok-next, In-Some-next, After-last_mark-next-then-is_slow}

-- The busy period at which it closes.
closes : (g : Over) (c : In_ok-busy g) → Some c.in_ok-busy.busy ≡ busy (g.L.Load.meaning c.args.load.now).amounts
closes g c = sym c.in_ok-busy.ensures.ok_part ∙ c.busy_period.ensures

-- Where the walk stands at a turn.
here : (g : Over) (c : In-Some g) → Going (g.L.Load.meaning c.args.load.now).amounts c.in_ok-busy.busy (Some c.in-Some.t)
here g c = subst (λ o. Going (g.L.Load.meaning c.args.load.now).amounts c.in_ok-busy.busy o) c.in-Some.is c.loop-next.invariant

-- After a step it stands lower.
after_step : (g : Over) (c : In_ok-next g) → Going (g.L.Load.meaning c.args.load.now).amounts c.in_ok-busy.busy (Some c.in-Some.t) → Some c.in_ok-busy.busy ≡ busy (g.L.Load.meaning c.args.load.now).amounts → Going (g.L.Load.meaning c.args.load.now).amounts c.in_ok-busy.busy c.in_ok-next.next × (left c.in_ok-next.next < left c.loop-next.next)
after_step g c i b =
    let s = go_step (g.L.Load.meaning c.args.load.now).amounts (g.met.L.Load.lawful c.args.load.now).rules c.in_ok-busy.busy b c.in-Some.t i c.in_ok-next.next (sym c.in_ok-next.was ∙ c.step.ensures) in
    (s.0, subst (λ o. left c.in_ok-next.next < left o) (sym c.in-Some.is) s.1)

lower : (g : Over) (c : In-Some-next g) → Going (g.L.Load.meaning c.args.load.now).amounts c.in_ok-busy.busy c.in_ok-next.next → Going (g.L.Load.meaning c.args.load.now).amounts c.in_ok-busy.busy (Some c.in-Some-next.u)
lower g c i = subst (λ o. Going (g.L.Load.meaning c.args.load.now).amounts c.in_ok-busy.busy o) c.in-Some-next.is i

pub returns-in_err-busy : goal.returns-in_err-busy
returns-in_err-busy g c =
    let unclosed = walk_open (g.L.Load.meaning c.args.load.now).amounts (sym c.in_err-busy.ensures.ok_part ∙ c.busy_period.ensures) in
    search rules

pub loop-next-init : goal.loop-next-init
loop-next-init g c = go_start (g.L.Load.meaning c.args.load.now).amounts (g.met.L.Load.lawful c.args.load.now).rules c.in_ok-busy.busy (closes g (goal.at.loop-next-init g c).In_ok-busy) c.last_mark-next.result c.last_mark-next.ensures

pub step-requires : goal.step-requires
step-requires g c =
    let b = closes g (goal.at.step-requires g c).In_ok-busy in
    let i = here g (goal.at.step-requires g c).In-Some in
    record { within = omega (arith, short (g.L.Load.meaning c.args.load.now).amounts (g.met.L.Load.lawful c.args.load.now).rules c.in_ok-busy.busy b, i.0.0); uncut = uncut (g.L.Load.meaning c.args.load.now).amounts (g.met.L.Load.lawful c.args.load.now).rules c.in_ok-busy.busy b c.in-Some.t i.0.0 }

pub returns-in_err-next : goal.returns-in_err-next
returns-in_err-next g c =
    let late = go_late (g.L.Load.meaning c.args.load.now).amounts (g.met.L.Load.lawful c.args.load.now).rules c.in_ok-busy.busy (closes g (goal.at.returns-in_err-next g c).In_ok-busy) c.in-Some.t (here g (goal.at.returns-in_err-next g c).In-Some)
    c.in_err-next.field-0.0 (sym c.in_err-next.was ∙ c.step.ensures) in
    search rules

pub overflow_sub-t : goal.overflow_sub-t
overflow_sub-t g c = omega (arith, (after_step g (goal.at.overflow_sub-t g c).In_ok-next (here g (goal.at.overflow_sub-t g c).In-Some) (closes g (goal.at.overflow_sub-t g c).In_ok-busy)).1, ap left c.in-Some-next.is, ap left c.in-Some.is)

pub kept_in_row-requires : goal.kept_in_row-requires
kept_in_row-requires g c =
    let b = closes g (goal.at.kept_in_row-requires g c).In_ok-busy in
    let j = lower g (goal.at.kept_in_row-requires g c).In-Some-next (after_step g (goal.at.kept_in_row-requires g c).In_ok-next (here g (goal.at.kept_in_row-requires g c).In-Some) (closes g (goal.at.kept_in_row-requires g c).In_ok-busy)).0 in
    record { within = omega (arith, short (g.L.Load.meaning c.args.load.now).amounts (g.met.L.Load.lawful c.args.load.now).rules c.in_ok-busy.busy b, j.0.0); uncut = uncut (g.L.Load.meaning c.args.load.now).amounts (g.met.L.Load.lawful c.args.load.now).rules c.in_ok-busy.busy b c.in-Some-next.u j.0.0 }

-- After a row it stands no higher.
past_row : (g : Over) (c : After-last_mark-next-then-is_slow g) → Going (g.L.Load.meaning c.args.load.now).amounts c.in_ok-busy.busy (Some c.in-Some-next.u) → Some c.in_ok-busy.busy ≡ busy (g.L.Load.meaning c.args.load.now).amounts
    → Going (g.L.Load.meaning c.args.load.now).amounts c.in_ok-busy.busy c.last_mark-next-then-is_slow.result × (left c.last_mark-next-then-is_slow.result ≤ left (Some c.in-Some-next.u))
past_row g c j b =
    go_kept (g.L.Load.meaning c.args.load.now).amounts (g.met.L.Load.lawful c.args.load.now).rules c.in_ok-busy.busy b c.in-Some-next.u c.kept_in_row.result j c.kept_in_row.ensures.below c.kept_in_row.ensures.kept
    c.last_mark-next-then-is_slow.result c.last_mark-next-then-is_slow.ensures

pub loop-next-smaller-then-is_slow : goal.loop-next-smaller-then-is_slow
loop-next-smaller-then-is_slow g c =
    let s = after_step g (goal.at.loop-next-smaller-then-is_slow g c).In_ok-next (here g (goal.at.loop-next-smaller-then-is_slow g c).In-Some) (closes g (goal.at.loop-next-smaller-then-is_slow g c).In_ok-busy) in
    omega (arith, s.1, ap left c.in-Some-next.is, (past_row g (goal.at.loop-next-smaller-then-is_slow g c).After-last_mark-next-then-is_slow (lower g (goal.at.loop-next-smaller-then-is_slow g c).In-Some-next s.0) (closes g (goal.at.loop-next-smaller-then-is_slow g c).In_ok-busy)).1)

pub loop-next-preserved-then-is_slow : goal.loop-next-preserved-then-is_slow
loop-next-preserved-then-is_slow g c =
    let s = after_step g (goal.at.loop-next-preserved-then-is_slow g c).In_ok-next (here g (goal.at.loop-next-preserved-then-is_slow g c).In-Some) (closes g (goal.at.loop-next-preserved-then-is_slow g c).In_ok-busy) in
    (past_row g (goal.at.loop-next-preserved-then-is_slow g c).After-last_mark-next-then-is_slow (lower g (goal.at.loop-next-preserved-then-is_slow g c).In-Some-next s.0) (closes g (goal.at.loop-next-preserved-then-is_slow g c).In_ok-busy)).0

pub loop-next-smaller-else-is_slow : goal.loop-next-smaller-else-is_slow
loop-next-smaller-else-is_slow g c = subst (λ o. left o < left c.loop-next.next) c.in-Some-next.is (after_step g (goal.at.loop-next-smaller-else-is_slow g c).In_ok-next (here g (goal.at.loop-next-smaller-else-is_slow g c).In-Some) (closes g (goal.at.loop-next-smaller-else-is_slow g c).In_ok-busy)).1

pub loop-next-preserved-else-is_slow : goal.loop-next-preserved-else-is_slow
loop-next-preserved-else-is_slow g c = lower g (goal.at.loop-next-preserved-else-is_slow g c).In-Some-next (after_step g (goal.at.loop-next-preserved-else-is_slow g c).In_ok-next (here g (goal.at.loop-next-preserved-else-is_slow g c).In-Some) (closes g (goal.at.loop-next-preserved-else-is_slow g c).In_ok-busy)).0

pub loop-next-smaller : goal.loop-next-smaller
loop-next-smaller g c = (after_step g (goal.at.loop-next-smaller g c).In_ok-next (here g (goal.at.loop-next-smaller g c).In-Some) (closes g (goal.at.loop-next-smaller g c).In_ok-busy)).1

pub loop-next-preserved : goal.loop-next-preserved
loop-next-preserved g c = (after_step g (goal.at.loop-next-preserved g c).In_ok-next (here g (goal.at.loop-next-preserved g c).In-Some) (closes g (goal.at.loop-next-preserved g c).In_ok-busy)).0

pub returns : goal.returns
returns g c =
    go_none (g.L.Load.meaning c.args.load.now).amounts (g.met.L.Load.lawful c.args.load.now).rules c.in_ok-busy.busy (closes g (goal.at.returns g c).In_ok-busy)
    (subst (λ o. Going (g.L.Load.meaning c.args.load.now).amounts c.in_ok-busy.busy o) c.in_default.is c.loop-next.invariant)
