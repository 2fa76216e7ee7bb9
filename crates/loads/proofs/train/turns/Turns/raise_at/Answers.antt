-- The circle begun at k is a run of the frames from k on, and after it one of those before k.
use Rattle.std.proofs.Common.{◌≤◌, ◌+◌, ◌<◌, take, drop, ap, ap₂, ◌∙◌, arith}
use Rattle.loads.specs.Train.{circle_from}
use Rattle.loads.specs.TrainRests.{gaps, counts}
use Rattle.loads.proofs.TrainMarks.{gaps_parts}
use Rattle.loads.proofs.TrainRows.{counts_append}
use Rattle.loads.proofs.TrainSums.{each_front, each_back}
use Rattle.loads.proofs.train.turns.Turns.raise_at.Goals as goal

pub invariant_of-add_to : goal.invariant_of-add_to
invariant_of-add_to c =
    let s = c.args.self.now in
    record {
      whole = rw c.split_at.ensures.back (omega (arith, gaps_parts c.args.k s.frames.now));
      again = s.again;
      near = s.near;
      soon = s.soon;
      each = rw c.split_at.ensures.back (each_back (λ f. f.rest ≤ 100000000) c.args.k s.frames.now s.each);
    }

pub invariant_of-add_to-2 : goal.invariant_of-add_to-2
invariant_of-add_to-2 c =
    let s = c.args.self.now in
    record {
      whole = rw c.split_at.ensures.front (omega (arith, gaps_parts c.args.k s.frames.now));
      again = s.again;
      near = s.near;
      soon = s.soon;
      each = rw c.split_at.ensures.front (each_front (λ f. f.rest ≤ 100000000) c.args.k s.frames.now c.requires.inside s.each);
    }

pub add_to-requires-clause-whole : goal.add_to-requires-clause-whole
add_to-requires-clause-whole c = omega (arith, gaps_parts c.args.k c.args.self.now.frames.now, ap gaps c.split_at.ensures.front, ap gaps c.split_at.ensures.back)

pub returns : goal.returns
unfolding circle_from
returns c = λ i h.
    let s = c.args.self.now in
    let fs = s.frames.now in
    let off = c.add_to-off.ensures.after ∙ ap (λ gs. 0 + gaps gs) c.split_at.ensures.back in
    let t = counts_append s.round (s.from + i) 0 (drop c.args.k fs) (take c.args.k fs) in
    let a = ap (counts s.round (s.from + i) 0) c.split_at.ensures.back in
    let b = ap₂ (counts s.round (s.from + i)) off c.split_at.ensures.front in
    let l : i < 256 = omega arith in
    omega (arith, c.new-steps.ensures i l, c.add_to-off.ensures.more i h, c.add_to.ensures.more i h, c.raise.ensures i l)
