-- The loop over the frames takes in the last deadline of each, and at the end none is left.
use Rattle.std.proofs.Common.{sym, ◌∙◌, arith}
use Rattle.std.proofs.lemmas.Grind.{common_steps}
use Rattle.loads.proofs.TrainMarks.{last_next, last_end}
use Rattle.loads.proofs.train.marks.Rounds.last_of.Goals as goal

pub loop-f-preserved : goal.loop-f-preserved
loop-f-preserved c =
    let s = c.args.self.now in
    record {
      gaps_left = grind (arith, common_steps);
      marks_left =
          last_next s.round s.t c.loop-f.off s.frames.now c.loop-f.f-index c.f-item.result c.from-off.result c.loop-f.last c.last_hit.result c.later-last.result _
          c.loop-f-test.true c.f-item.is (c.from-off.ensures ∙ c.gap.ensures) c.last_hit.ensures c.later-last.ensures c.loop-f.invariant.marks_left;
    }

pub returns-clause-same : goal.returns-clause-same
returns-clause-same c =
    let s = c.args.self.now in
    sym (last_end s.round s.t c.loop-f.off s.frames.now c.loop-f.f-index c.loop-f.last c.loop-f-test.false) ∙ c.loop-f.invariant.marks_left
