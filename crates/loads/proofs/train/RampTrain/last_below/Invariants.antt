use Rattle.std.proofs.Common.{◌≡◌, ◌-◌, ◌%◌, map, length, take}
use Rattle.loads.proofs.TrainSums.{with_rest}
use Rattle.loads.proofs.train.RampTrain.last_below.Given as goal

-- The first i places hold the first i frames with their rests.
abbrev pub invariant-loop-i : goal.invariant-loop-i
invariant-loop-i l = record {
  places : length l.rests ≡ 16;
  rests : take l.i l.rests ≡ map (with_rest (λ f. (l.t - 1 - f.deadline) % l.round)) (take l.i l.frames);
}
