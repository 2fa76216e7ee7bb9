use Rattle.std.specs.Int.{div_ceil}
use Rattle.std.proofs.Common.{◌∙◌, ap, arith}
use Rattle.loads.proofs.Stepping.{steps_more, steps_before}
use Rattle.loads.proofs.steps.Steps.add.Goals as goal

pub loop-at-init : goal.loop-at-init
loop-at-init c = λ i h.
    steps_before c.args.self.now.added c.args.period c.args.from c.args.first c.args.cost c.div_ceil-before.result c.min.result 1099511627776 i
    (omega (arith, c.args.self.now.full)) (omega arith) (c.div_ceil-before.ensures ∙ ap (λ n. div_ceil n c.args.period) c.saturating_sub.ensures) c.min.ensures

pub loop-at-preserved : goal.loop-at-preserved
loop-at-preserved c = λ i h.
    steps_more c.loop-at.self.added c.args.period c.args.cost c.loop-at.at c.min-in-loop-at.result 1099511627776 i
    (omega (arith, c.loop-at.self.full)) (omega arith) c.min-in-loop-at.ensures
    ∙ c.loop-at.invariant i h
