use Rattle.std.proofs.Common.{◌≡◌, ◌^◌, length, map, min, take}
use Rattle.std.specs.List.{range_with_len}
use Rattle.loads.specs.Steps.{topped}
use Rattle.loads.proofs.steps.tops.Tops.row.Given as goal

abbrev pub invariant-loop-i : goal.invariant-loop-i
invariant-loop-i l = record {
  places : length l.row ≡ 256;
  so_far : l.top ≡ topped (take l.i l.fn.self.at) l.i;
  written : take l.i l.row ≡ map (λ i. min (topped l.fn.self.at i) (2 ^ 40)) (range_with_len 0 l.i);
}
