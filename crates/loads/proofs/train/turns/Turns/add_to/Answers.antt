use Rattle.std.proofs.Common.{◌+◌, ◌∙◌, arith}
use Rattle.std.proofs.lemmas.Grind.{common_steps}
use Rattle.loads.proofs.TrainRows.{counts_turn, counts_end}
use Rattle.loads.proofs.train.turns.Turns.add_to.Goals as goal

pub loop-f-preserved : goal.loop-f-preserved
loop-f-preserved c =
    let s = c.args.self.now in
    record {
      gaps_left = grind (arith, common_steps);
      work_left = λ j h.
          counts_turn s.round (s.from + j) c.loop-f.off s.frames.now c.loop-f.f-index c.f-item.result c.from-cost.result c.from-off.result _ _ _ c.loop-f-test.true c.f-item.is
          (c.from-cost.ensures ∙ c.cost.ensures) (c.from-off.ensures ∙ c.gap.ensures) (c.add.ensures j h) ∙ c.loop-f.invariant.work_left j h;
    }

pub returns-clause-more : goal.returns-clause-more
returns-clause-more c = λ i h.
    let s = c.args.self.now in
    omega (arith, c.loop-f.invariant.work_left i h, counts_end s.round (s.from + i) c.loop-f.off s.frames.now c.loop-f.f-index c.loop-f-test.false)
