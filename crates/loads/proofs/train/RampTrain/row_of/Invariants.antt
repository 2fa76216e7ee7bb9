use Rattle.std.proofs.Common.{◌≡◌, ◌-◌, ◌*◌, ◌/◌, ◌≤◌, map, length, take}
use Rattle.std.specs.List.{sum_by}
use Rattle.loads.specs.declared.frame.Frame.{Frame}
use Rattle.loads.specs.Making.{frame_params}
use Rattle.loads.specs.TrainRows.{lag, since}
use Rattle.loads.proofs.TrainSums.{with_rest}
use Rattle.loads.proofs.train.RampTrain.row_of.Given as goal

-- The first i places hold the first i frames with their rests, and the work of the turns before is added up: at most
-- 1,000,000,000,000,000 for each frame, its cost times at most 100,000,000 rounds.
abbrev pub invariant-loop-i : goal.invariant-loop-i
invariant-loop-i l = record {
  most : l.base ≤ 1000000000000000 * l.i;
  added : l.base ≡ sum_by (λ (f : Frame). f.cost * ((l.from - lag l.counted (frame_params f)) / l.round)) (take l.i l.frames);
  places : length l.rests ≡ 16;
  rests : take l.i l.rests ≡ map (with_rest (λ f. since l.round l.from (lag l.counted f))) (take l.i l.frames);
}
