use Rattle.std.proofs.Common.{◌≡◌, map, take}
use Rattle.loads.specs.Making.{frame_params}
use Rattle.loads.specs.Train.{frames_of}
use Rattle.loads.proofs.train.RampTrain.from_frames.Given as goal

-- The train holds the frames so far.
abbrev pub invariant-loop-f : goal.invariant-loop-f
invariant-loop-f l = frames_of l.train ≡ map frame_params (take l.f-index l.frames)
