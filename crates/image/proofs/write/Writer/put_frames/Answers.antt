-- The loop over the frames writes their records one after another.
use Rattle.std.proofs.Common.{take, sym, ap, ◌∙◌, add-one, arith, length-take}
use Rattle.format.proofs.WriteTurns.{of_frames, frames_more, length_of_frames}
use Rattle.image.proofs.Writing.{wrote_then, wrote_as}
use Rattle.image.proofs.write.Writer.put_frames.Goals as goal

pub put_frame-requires : goal.put_frame-requires
put_frame-requires c =
    let fs = c.args.frames.now in
    let i = c.loop-frame.frame-index in
    omega (arith, c.loop-frame.invariant.wrote.at, c.loop-frame.invariant.wrote.same_length, c.requires, length_of_frames fs, length_of_frames (take i fs), length-take i fs, c.loop-frame-test.true)

pub loop-frame-preserved : goal.loop-frame-preserved
loop-frame-preserved c =
    let fs = c.args.frames.now in
    let i = c.loop-frame.frame-index in
    let e = ap (λ n. of_frames (take n fs)) (add-one i) ∙ frames_more fs i c.frame-item.result c.loop-frame-test.true c.frame-item.is in
    record {
      same = c.put_frame.ensures.same_buffer ∙ c.loop-frame.invariant.same;
      wrote = wrote_as (wrote_then c.loop-frame.invariant.wrote c.put_frame.ensures.wrote) (sym e);
    }
