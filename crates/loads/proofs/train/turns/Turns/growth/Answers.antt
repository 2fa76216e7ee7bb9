use Rattle.std.proofs.Common.{◌+◌, inl, inr, arith}
use Rattle.loads.proofs.TrainRows.{few_rests}
use Rattle.loads.proofs.TrainTurns.{settled_next, settled_end, begun_with, begun_without, begun_end}
use Rattle.loads.proofs.train.turns.Turns.growth.Goals as goal
use Rattle.loads.proofs.train.turns.Turns.growth.Goals.{then-f-self, else-f-self}

pub overflow_add-more : goal.overflow_add-more
overflow_add-more c = omega (arith, few_rests c.args.self.now.frames.now)

pub loop-f-preserved : goal.loop-f-preserved
loop-f-preserved c =
    let s = c.args.self.now in
    let u = s.from + 255 in
    let fs = s.frames.now in
    let i = c.loop-f.f-index in
    let f = c.f-item.result in
    let h = c.loop-f-test.true in
    elim c.if-f-self.branch [
      | then-f-self w ↦ record {
        near = omega arith;
        small = omega (arith, f.frame.cost_range.1);
        settled_left = λ m l a. c.loop-f.invariant.settled_left m (omega arith) (settled_next (s.from + m) u fs i f h c.f-item.is (inl (omega arith)) a);
        more_left = omega (arith, begun_with u fs i f h c.f-item.is (omega arith));
      }
      | else-f-self w ↦ record {
        near = omega arith;
        small = omega arith;
        settled_left = λ m l a. c.loop-f.invariant.settled_left m (omega arith) (settled_next (s.from + m) u fs i f h c.f-item.is (inr (omega arith)) a);
        more_left = omega (arith, begun_without u fs i f h c.f-item.is (omega arith));
      }
    ]

pub returns-clause-settled : goal.returns-clause-settled
returns-clause-settled c =
    let s = c.args.self.now in
    c.loop-f.invariant.settled_left c.loop-f.still (omega arith) (settled_end (s.from + c.loop-f.still) (s.from + 255) s.frames.now c.loop-f.f-index c.loop-f-test.false)

pub returns-clause-grown : goal.returns-clause-grown
returns-clause-grown c =
    let s = c.args.self.now in
    omega (arith, begun_end (s.from + 255) s.frames.now c.loop-f.f-index c.loop-f-test.false)
