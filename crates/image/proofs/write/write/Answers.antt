-- Tasks, frames and end mark written in turn are the image, which reads back; a short buffer is left alone.
use Rattle.std.proofs.Common.{◌≡◌, List, map, length, sym, ap, ◌∙◌, arith, rules}
use Rattle.std.proofs.lemmas.List.{length-map}
use Rattle.loads.specs.Making.{frame_params}
use Rattle.loads.specs.Params.{FrameParams}
use Rattle.loads.specs.Train.{frames_of}
use Rattle.theory.specs.Meaning.{Meaning, Laws}
use Rattle.loads.specs.declared.train.RampTrain.{RampTrain}
use Rattle.loads.specs.Channels.{Channels, blank}
use Rattle.loads.specs.TrainRanges.{frames_ranged, frames_few}
use Rattle.plan.specs.declared.call.Call.{Call}
use Rattle.plan.specs.Ledger.{ledger, after, guest}
use Rattle.format.specs.Encode.{encode}
use Rattle.format.specs.Writes.{placed, written}
use Rattle.format.specs.Statements.{ReadsAgain}
use Rattle.format.proofs.ReadsAgain.{reads_again}
use Rattle.format.proofs.WriteTurns.{encode_parts, length_frames, length_encode, written_short, written_all}
use Rattle.image.proofs.Writing.{wrote_then}
use Rattle.image.proofs.write.write.Goals as goal

-- The image of a plan over a train reads back, if calls make its ledger.
back_of : (m : Meaning) → Laws m → (l : Channels) (t : RampTrain) (before : List Call) → l ≡ after m blank before → ReadsAgain m l (frames_of t)
back_of m h l t before e = reads_again m h before l (frames_of t) e (frames_few t) (frames_ranged t)

pub returns-then-total-out : goal.returns-then-total-out
returns-then-total-out g c =
    let l = ledger c.args.plan.now in
    let fs = frames_of c.args.train.now in
    let n : length fs ≡ length c.frames-frames.result.now = sym (ap length c.frames-frames.ensures.same) ∙ length-map c.frames-frames.result.now frame_params in
    record {
      says = written_short (encode l fs) c.args.out.now (omega (arith, n, length_encode l fs, c.tasks_len.ensures.value));
      back = back_of (g.G.Load.meaning (guest c.args.plan.now)) (g.met.G.Load.lawful (guest c.args.plan.now)) l c.args.train.now;
    }

pub put_frames-requires : goal.put_frames-requires
put_frames-requires g c =
    let w = c.put_tasks.ensures.wrote in
    let n = length-map c.frames-frames.result.now frame_params in
    omega (arith, n, length_frames (map frame_params c.frames-frames.result.now), w.at, w.same_length, c.tasks_len.ensures.value, c.if-total-out.false)

pub put-requires : goal.put-requires
put-requires g c =
    let w = c.put_tasks.ensures.wrote in
    let v = c.put_frames.ensures.wrote in
    let n = length-map c.frames-frames.result.now frame_params in
    omega (arith, n, length_frames (map frame_params c.frames-frames.result.now), w.at, w.same_length, v.at, v.same_length, c.tasks_len.ensures.value, c.if-total-out.false)

pub returns-clause-says : goal.returns-clause-says
returns-clause-says g c =
    let l = ledger c.args.plan.now in
    let fs = map frame_params c.frames-frames.result.now in
    let out = c.args.out.now in
    let w = wrote_then (wrote_then c.put_tasks.ensures.wrote c.put_frames.ensures.wrote) c.put.ensures.wrote in
    let m = length-map c.frames-frames.result.now frame_params in
    written_all (encode l fs) out _ _
    (omega (arith, m, length_encode l fs, c.tasks_len.ensures.value))
    (search rules ∙ w.bytes ∙ ap (placed out 0) (sym (encode_parts l fs)))
    c.if-total-out.false
    ∙ ap (λ (gs : List FrameParams). written (encode l gs) out) c.frames-frames.ensures.same

pub returns-clause-back : goal.returns-clause-back
returns-clause-back g c = back_of (g.G.Load.meaning (guest c.args.plan.now)) (g.met.G.Load.lawful (guest c.args.plan.now)) (ledger c.args.plan.now) c.args.train.now
