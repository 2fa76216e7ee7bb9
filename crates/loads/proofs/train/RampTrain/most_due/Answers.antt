-- The work of whole rounds and the largest within the rests are what is due; without frames it is nothing.
use Rattle.std.proofs.Common.{◌≡◌, ◌+◌, ◌-◌, ◌*◌, ◌/◌, ◌%◌, map, length, sym, ap, ap₂, ◌∙◌, arith, rules, take_all}
use Rattle.std.specs.List.{sum_by}
use Rattle.std.proofs.lemmas.Bool.{eqb-true}
use Rattle.std.proofs.lemmas.Grind.{common_steps}
use Rattle.loads.specs.Making.{frame_params}
use Rattle.loads.specs.Train.{cycle, train_amounts}
use Rattle.loads.specs.TrainRanges.{all_ranged}
use Rattle.loads.proofs.TrainWithin.{due_split}
use Rattle.loads.proofs.TrainSums.{with_rest, sum_by_frame, due_none, most_rests, written_more, written_all}
use Rattle.loads.proofs.train.RampTrain.most_due.Goals as goal

pub returns-then-is_empty : goal.returns-then-is_empty
returns-then-is_empty c =
    let fs = c.frames-frames.result.now in
    due_none fs c.args.t (eqb-true (length fs) 0 (sym c.if-is_empty.ensures)) ∙ ap (λ ps. (train_amounts ps).due c.args.t) c.frames-frames.ensures.same

pub loop-i-preserved : goal.loop-i-preserved
loop-i-preserved c =
    let f = c.index-frames-i.result in
    let round = c.round-round.result in
    let time : c.saturating_sub-time.result ≡ c.count-t.result + 1 - f.deadline = omega arith in
    record {
      most = grind (arith, common_steps);
      added = grind (arith, common_steps);
      places = search rules;
      rests =
          written_more (with_rest (λ f. (c.count-t.result + 1 - f.deadline) % round)) c.frames-frames.result.now c.loop-i.rests c.loop-i.i f _ c.loop-i-test.true (omega arith)
          c.index-frames-i.is (c.set.ensures ∙ ap (λ n. record { frame = f; rest = n % round }) time) c.loop-i.invariant.rests;
    }

pub returns : goal.returns
returns c =
    let fs = c.frames-frames.result.now in
    let round = c.round-round.result in
    let e = c.frames-frames.ensures.same in
    let i : c.loop-i.i ≡ length fs = omega arith in
    let w = ap (sum_by (λ f. f.cost * ((c.count-t.result + 1 - f.deadline) / round))) (take_all c.loop-i.i fs (omega arith)) in
    let s = sum_by_frame (λ f. f.cost * ((c.count-t.result + 1 - f.deadline) / round)) fs in
    let m = most_rests (λ f. (c.count-t.result + 1 - f.deadline) % round) fs _ (written_all _ fs c.loop-i.rests c.loop-i.i i c.loop-i.invariant.rests) in
    let d = due_split c.count-t.result round (map frame_params fs) (all_ranged fs) (c.round-round.ensures.same ∙ ap cycle (sym e)) in
    omega (arith, ap₂ (λ ps n. (train_amounts ps).due n) e c.count-t.ensures)
