-- The work of whole rounds and the largest within the rest are what is ready; without frames it is nothing.
use Rattle.std.proofs.Common.{◌≡◌, ◌*◌, ◌/◌, ◌%◌, map, length, sym, ap, ap₂, ◌∙◌, arith, rules}
use Rattle.std.proofs.lemmas.Bool.{eqb-true}
use Rattle.loads.specs.Making.{frame_params}
use Rattle.loads.specs.Train.{cycle, sum_along, train_amounts}
use Rattle.loads.specs.TrainRanges.{all_ranged}
use Rattle.loads.proofs.TrainWithin.{ready_split}
use Rattle.loads.proofs.TrainSums.{with_rest, ready_none, most_rests, written_more, written_all}
use Rattle.loads.proofs.train.RampTrain.most_ready.Goals as goal

pub returns-then-is_empty : goal.returns-then-is_empty
returns-then-is_empty c =
    let fs = c.frames-frames.result.now in
    ready_none fs c.args.s (eqb-true (length fs) 0 (sym c.if-is_empty.ensures)) ∙ ap (λ ps. (train_amounts ps).ready c.args.s) c.frames-frames.ensures.same

pub loop-i-preserved : goal.loop-i-preserved
loop-i-preserved c = record {
  places = search rules;
  rests = written_more (with_rest (λ f. c.count-s.result % c.round-round.result)) c.frames-frames.result.now c.loop-i.rests c.loop-i.i c.index-frames-i.result _ c.loop-i-test.true (omega arith)
      c.index-frames-i.is c.set.ensures c.loop-i.invariant.rests;
}

pub returns : goal.returns
returns c =
    let fs = c.frames-frames.result.now in
    let round = c.round-round.result in
    let e = c.frames-frames.ensures.same in
    let i : c.loop-i.i ≡ length fs = omega arith in
    let w = ap (λ n. n * (c.count-s.result / round)) (c.work.ensures.same ∙ ap (sum_along (λ f o. f.cost) 0) (sym e)) in
    let m = most_rests (λ f. c.count-s.result % round) fs _ (written_all _ fs c.loop-i.rests c.loop-i.i i c.loop-i.invariant.rests) in
    let d = ready_split c.count-s.result round (map frame_params fs) (all_ranged fs) (c.round-round.ensures.same ∙ ap cycle (sym e)) in
    omega (arith, ap₂ (λ ps n. (train_amounts ps).ready n) e c.count-s.ensures)
