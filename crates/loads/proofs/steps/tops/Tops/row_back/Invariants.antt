use Rattle.std.proofs.Common.{◌≡◌, ◌-◌, ◌^◌, length, map, min, take}
use Rattle.std.specs.List.{range_with_len}
use Rattle.loads.specs.Steps.{topped}
use Rattle.loads.proofs.steps.tops.Tops.row_back.Given as goal

abbrev pub invariant-loop-i : goal.invariant-loop-i
invariant-loop-i l = record {
  places : length l.row ≡ 256;
  written : take l.i l.row ≡ map (λ i. min (topped l.self.at (255 - i)) (2 ^ 40)) (range_with_len 0 l.i);
}
