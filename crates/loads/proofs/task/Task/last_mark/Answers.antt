-- No mark is below t where t is at most D − J, and else the last one is t - 1 less a remainder.
use Rattle.std.proofs.Common.{◌≡◌, ◌-◌, ◌%◌, Some, sym, ◌∙◌, arith}
use Rattle.loads.specs.Making.{task_params}
use Rattle.loads.specs.Ranged.{task_ranged}
use Rattle.loads.specs.TaskMarks.{before_start, after_start}
use Rattle.loads.proofs.task.Task.last_mark.Goals as goal

pub returns-in_err-below : goal.returns-in_err-below
returns-in_err-below c = c.from_residual.ensures ∙ sym (before_start (task_params c.args.self.now) (task_ranged c.args.self.now) c.args.t (omega (arith, c.in_err-below.ensures)))

pub returns-in_err-past : goal.returns-in_err-past
returns-in_err-past c =
    c.from_residual-in_err-past.ensures
    ∙ sym (before_start (task_params c.args.self.now) (task_ranged c.args.self.now) c.args.t (omega (arith, c.in_err-past.ensures, c.in_ok-below.ensures)))

pub returns : goal.returns
returns c =
    let b : c.in_ok-below.below ≡ c.args.t - 1 = omega (arith, c.in_ok-below.ensures) in
    let p : c.in_ok-past.past ≡ c.args.t - 1 - (c.args.self.now.deadline - c.args.self.now.jitter) = omega (arith, c.in_ok-past.ensures) in
    (λ i. Some (b i - p i % c.from.ensures i))
    ∙ sym (after_start (task_params c.args.self.now) (task_ranged c.args.self.now) c.args.t (omega (arith, c.in_ok-past.ensures, c.in_ok-below.ensures)))
