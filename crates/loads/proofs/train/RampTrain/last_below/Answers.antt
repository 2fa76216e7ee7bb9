-- The places written hold each frame with its rest, and so the last mark over them is that of the train; without frames there is none.
use Rattle.std.proofs.Common.{◌≡◌, ◌-◌, ◌%◌, map, length, sym, ap, ap₂, ◌∙◌, arith, rules}
use Rattle.std.proofs.lemmas.Bool.{eqb-true}
use Rattle.theory.specs.Meaning.{last_mark}
use Rattle.loads.specs.Train.{cycle, circle_from, any_of, mark_from, train_amounts}
use Rattle.loads.specs.TrainRests.{params}
use Rattle.loads.proofs.TrainSums.{with_rest, marks_none, written_more, written_all}
use Rattle.loads.proofs.TrainMarks.{each_written, gaps_written, marks_written}
use Rattle.loads.proofs.train.RampTrain.last_below.Goals as goal

pub returns-then-is_empty : goal.returns-then-is_empty
returns-then-is_empty c =
    let fs = c.frames-frames.result.now in
    marks_none fs c.args.t (eqb-true (length fs) 0 (sym c.if-is_empty.ensures)) ∙ ap (λ ps. last_mark (train_amounts ps).mark c.args.t) c.frames-frames.ensures.same

pub loop-i-preserved : goal.loop-i-preserved
loop-i-preserved c =
    let f = c.index-frames-i.result in
    let round = c.round-round.result in
    let time : c.saturating_sub.result ≡ c.count-t.result - 1 - f.deadline = omega arith in
    record {
      places = search rules;
      rests =
          written_more (with_rest (λ f. (c.count-t.result - 1 - f.deadline) % round)) c.frames-frames.result.now c.loop-i.rests c.loop-i.i f _ c.loop-i-test.true (omega arith)
          c.index-frames-i.is (c.set.ensures ∙ ap (λ n. record { frame = f; rest = n % round }) time) c.loop-i.invariant.rests;
    }

pub invariant_of-rounds : goal.invariant_of-rounds
invariant_of-rounds c =
    let fs = c.frames-frames.result.now in
    let round = c.round-round.result in
    let t = c.count-t.result in
    let w = written_all _ fs c.loop-i.rests c.loop-i.i (omega arith) c.loop-i.invariant.rests in
    let r = c.round-round.ensures.same ∙ ap cycle (sym c.frames-frames.ensures.same) in
    record {
      each = rw w (each_written round t fs);
      whole = rw w (omega (arith, gaps_written (λ f. (t - 1 - f.deadline) % round) fs));
      near = c.round-round.ensures.near;
    }

pub returns : goal.returns
returns c =
    let fs = c.frames-frames.result.now in
    let round = c.round-round.result in
    let t = c.count-t.result in
    let w = written_all _ fs c.loop-i.rests c.loop-i.i (omega arith) c.loop-i.invariant.rests in
    let r = c.round-round.ensures.same ∙ ap cycle (sym c.frames-frames.ensures.same) in
    c.last_over.ensures
    ∙ ap₂ (λ c rs. last_mark (λ u. any_of (λ k. mark_from c u 0 (map params (circle_from k rs))) (length rs)) t) r w
    ∙ marks_written (λ f. (t - 1 - f.deadline) % round) t fs
    ∙ ap₂ (λ ps n. last_mark (train_amounts ps).mark n) c.frames-frames.ensures.same c.count-t.ensures
