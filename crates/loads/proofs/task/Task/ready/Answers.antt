-- The library's quotient rounded up is that of the definition.
use Rattle.std.specs.Int.{div_ceil}
use Rattle.std.proofs.Common.{◌+◌, ◌*◌, sym, ◌∙◌, arith}
use Rattle.loads.specs.Making.{task_params}
use Rattle.loads.specs.Ranged.{task_ranged}
use Rattle.loads.specs.OneTask as one
use Rattle.loads.proofs.Ceil.{ceil_is}
use Rattle.loads.proofs.task.Task.ready.Goals as goal

pub returns : goal.returns
returns c =
    let x = task_params c.args.self.now in
    let ok = task_ranged c.args.self.now in
    (λ i. c.from.ensures i * (c.div_ceil.ensures ∙ (λ j. div_ceil (c.count-s.ensures j + c.from-2.ensures j) (c.from-3.ensures j)) ∙ ceil_is (c.args.s + x.jitter) x.period ok.period_least) i)
    ∙ sym (one.busy x ok c.args.s (omega arith))
