-- The frames with their rests, and the work before, are what the row needs; without frames there is none.
use Rattle.std.proofs.Common.{◌≡◌, ◌+◌, ◌-◌, ◌*◌, ◌/◌, length, take, List, sym, ap, ap₂, ◌∙◌, arith, rules, take_all}
use lib.ListN.{length-map}
use Rattle.std.specs.List.{sum_by}
use Rattle.std.proofs.lemmas.Bool.{eqb-true}
use Rattle.std.proofs.lemmas.Grind.{common_steps}
use Rattle.theory.specs.Rows.{uncut_row}
use Rattle.loads.specs.declared.frame.Frame.{Frame}
use Rattle.loads.specs.Params.{FrameParams}
use Rattle.loads.specs.Making.{frame_params}
use Rattle.loads.specs.Train.{cycle, circle_from, largest_of, frames_of}
use Rattle.loads.specs.TrainTally.{tally}
use Rattle.loads.specs.TrainRests.{gaps}
use Rattle.loads.specs.TrainRows.{lag, since}
use Rattle.loads.proofs.TrainSums.{with_rest, written_more, written_all}
use Rattle.loads.proofs.TrainMarks.{gaps_written}
use Rattle.loads.proofs.TrainSince.{row_since, row_none, soon_rests}
use Rattle.loads.proofs.train.RampTrain.row_of.Goals as goal

pub returns-then-is_empty : goal.returns-then-is_empty
returns-then-is_empty c =
    row_none (lag c.args.counted) (cycle (frames_of c.args.self.now)) c.args.from (frames_of c.args.self.now)
    (ap length (sym c.frames-frames.ensures.same) ∙ length-map c.frames-frames.result.now frame_params ∙ eqb-true (length c.frames-frames.result.now) 0 (sym c.if-is_empty.ensures))

pub loop-i-preserved : goal.loop-i-preserved
loop-i-preserved c =
    let f = c.index-frames-i.result in
    let w = c.count-from.result in
    let round = c.round-round.result in
    let key = lag c.args.counted in
    let d : c.saturating_sub.result ≡ w - key (frame_params f) = omega arith in
    record {
      most = grind (arith, common_steps);
      added = grind (arith, common_steps);
      places = search rules;
      rests =
          written_more (with_rest (λ f. since round w (key f))) c.frames-frames.result.now c.loop-i.rests c.loop-i.i f _ c.loop-i-test.true (omega arith)
          c.index-frames-i.is (c.set.ensures ∙ ap₂ (λ a n. record { frame = f; rest = a + n / round * round }) c.lag-lag.ensures.same d) c.loop-i.invariant.rests;
    }

pub invariant_of-most_row-clause-whole : goal.invariant_of-most_row-clause-whole
invariant_of-most_row-clause-whole c =
    let fs = c.frames-frames.result.now in
    let key = λ (f : FrameParams). since c.round-round.result c.count-from.result (lag c.args.counted f) in
    let e = ap gaps (written_all (with_rest key) fs c.loop-i.rests c.loop-i.i (omega arith) c.loop-i.invariant.rests) in
    omega (arith, gaps_written key fs, ap cycle c.frames-frames.ensures.same)

pub invariant_of-most_row-clause-each : goal.invariant_of-most_row-clause-each
invariant_of-most_row-clause-each c =
    let fs = c.frames-frames.result.now in
    let key = λ (f : FrameParams). since c.round-round.result c.count-from.result (lag c.args.counted f) in
    let e = written_all (with_rest key) fs c.loop-i.rests c.loop-i.i (omega arith) c.loop-i.invariant.rests in
    rw e (soon_rests c.args.counted c.round-round.result c.count-from.result fs (omega arith))

pub returns : goal.returns
returns c =
    let fs = c.frames-frames.result.now in
    let round = c.round-round.result in
    let w = c.count-from.result in
    let key = lag c.args.counted in
    let same = c.frames-frames.ensures.same in
    let i : c.loop-i.i ≡ length fs = omega arith in
    let ls = written_all (with_rest (λ f. since round w (key f))) fs c.loop-i.rests c.loop-i.i i c.loop-i.invariant.rests in
    let b = c.loop-i.invariant.added ∙ ap (sum_by (λ (f : Frame). f.cost * ((w - key (frame_params f)) / round))) (take_all c.loop-i.i fs (omega arith)) in
    row_since key round w c.loop-i.base c.args.from fs (take (length fs) c.loop-i.rests) c.most_row.result (grind (arith, common_steps)) (c.round-round.ensures.same ∙ ap cycle (sym same)) (c.count-from.ensures ∙ c.upto.ensures) ls b c.most_row.ensures
    ∙ ap (λ (ps : List FrameParams). uncut_row (λ t. largest_of (λ k. tally key (cycle ps) t 0 (circle_from k ps)) (length ps)) c.args.from) same
