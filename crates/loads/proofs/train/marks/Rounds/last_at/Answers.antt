-- The circle begun at k is a run of the frames from k on, and after it one of those before k.
use Rattle.std.proofs.Common.{◌%◌, ◌-◌, ◌≡◌, ◌+◌, map, take, drop, sym, ap, ap₂, ◌∙◌, arith}
use Rattle.theory.specs.Meaning.{last_mark, later}
use Rattle.loads.specs.Train.{circle_from, mark_from}
use Rattle.loads.specs.TrainRests.{params, gaps}
use Rattle.loads.proofs.TrainMarks.{gaps_parts, last_append}
use Rattle.loads.proofs.TrainSums.{each_front, each_back}
use Rattle.loads.proofs.train.marks.Rounds.last_at.Goals as goal

pub invariant_of-after : goal.invariant_of-after
invariant_of-after c =
    let s = c.args.self.now in
    record {
      each = rw c.split_at.ensures.back (each_back (λ f. f.rest ≡ (s.t - 1 - f.frame.deadline) % s.round) c.args.k s.frames.now s.each);
      whole = rw c.split_at.ensures.back (omega (arith, gaps_parts c.args.k s.frames.now));
      near = s.near;
    }

pub invariant_of-before : goal.invariant_of-before
invariant_of-before c =
    let s = c.args.self.now in
    record {
      each = rw c.split_at.ensures.front (each_front (λ f. f.rest ≡ (s.t - 1 - f.frame.deadline) % s.round) c.args.k s.frames.now c.requires s.each);
      whole = rw c.split_at.ensures.front (omega (arith, gaps_parts c.args.k s.frames.now));
      near = s.near;
    }

pub last_of-second-requires : goal.last_of-second-requires
last_of-second-requires c = omega (arith, gaps_parts c.args.k c.args.self.now.frames.now, ap gaps c.split_at.ensures.front, ap gaps c.split_at.ensures.back)

pub returns : goal.returns
unfolding circle_from
returns c =
    let s = c.args.self.now in
    let fs = s.frames.now in
    let off = c.last_of-first.ensures.after ∙ ap (λ gs. 0 + gaps gs) c.split_at.ensures.back in
    c.later.ensures
    ∙ ap₂ later (c.last_of-first.ensures.same ∙ ap (λ gs. last_mark (λ u. mark_from s.round u 0 (map params gs)) s.t) c.split_at.ensures.back)
    (c.last_of-second.ensures.same ∙ ap₂ (λ n gs. last_mark (λ u. mark_from s.round u n (map params gs)) s.t) off c.split_at.ensures.front)
    ∙ sym (last_append s.round s.t 0 (drop c.args.k fs) (take c.args.k fs))
