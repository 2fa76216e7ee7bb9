use Rattle.std.proofs.Common.{◌≡◌, ◌*◌, ◌^◌, ◌≤◌, length, map, min, take}
use Rattle.std.specs.List.{sum_by, range_with_len}
use Rattle.loads.specs.Steps.{reached}
use Rattle.loads.proofs.steps.Steps.row.Given as goal

abbrev pub invariant-loop-i : goal.invariant-loop-i
invariant-loop-i l = record {
  places : length l.row ≡ 256;
  near : l.sum ≤ 1099511627776 * l.i;
  so_far : l.sum ≡ sum_by (λ x. x) (take l.i l.self.added);
  written : take l.i l.row ≡ map (λ i. min (reached l.self.added i) (2 ^ 40)) (range_with_len 0 l.i);
}
