use Rattle.std.proofs.Common.{◌≡◌, ◌+◌, ◌-◌, ◌*◌, ◌/◌, ◌%◌, ◌≤◌, map, length, take}
use Rattle.std.specs.List.{sum_by}
use Rattle.loads.specs.declared.frame.Frame.{Frame}
use Rattle.loads.proofs.TrainSums.{with_rest}
use Rattle.loads.proofs.train.RampTrain.most_due.Given as goal

-- The first i places hold the first i frames with their rests, and the work of their whole rounds is added up: at most
-- 1,000,000,010,000,000 for each, its cost times at most 100,000,001 rounds.
abbrev pub invariant-loop-i : goal.invariant-loop-i
invariant-loop-i l = record {
  most : l.whole ≤ 1000000010000000 * l.i;
  added : l.whole ≡ sum_by (λ (f : Frame). f.cost * ((l.t + 1 - f.deadline) / l.round)) (take l.i l.frames);
  places : length l.rests ≡ 16;
  rests : take l.i l.rests ≡ map (with_rest (λ f. (l.t + 1 - f.deadline) % l.round)) (take l.i l.frames);
}
