use Rattle.std.proofs.Common.{◌≡◌, ◌+◌, ◌*◌, min, ◌∙◌, arith}
use Rattle.loads.specs.Train.{upto}
use Rattle.loads.specs.Steps.{reached, grown}
use Rattle.loads.proofs.task.Task.add.Goals as goal

pub returns : goal.returns
unfolding grown
returns c = λ i h.
    let e : c.count.result + c.from.result + i ≡ c.args.from + i + c.args.self.now.jitter = omega arith in
    c.add.ensures i h
    ∙ (λ j. min (reached c.args.steps.now.added i + c.from-4.ensures j * upto (c.from-3.ensures j) (e j) (c.from-2.ensures j)) 1099511627776)
