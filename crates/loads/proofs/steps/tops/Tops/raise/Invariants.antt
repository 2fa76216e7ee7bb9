use Rattle.std.proofs.Common.{◌≡◌, ℕ, ◌*◌, ◌<◌, ◌≤◌, max, take}
use Rattle.std.specs.List.{sum_by}
use Rattle.loads.specs.Steps.{reached, topped}
use Rattle.loads.proofs.steps.tops.Tops.raise.Given as goal

-- One more so far, which grows in the first i steps alone.
abbrev pub invariant-loop-i : goal.invariant-loop-i
invariant-loop-i l = record {
  near : l.sum ≤ 1099511627776 * l.i;
  so_far : l.sum ≡ sum_by (λ x. x) (take l.i l.fn.steps.added);
  raised : (k : ℕ) → k < 256 → topped l.self.at k ≡ max (topped l.fn.self.at k) (reached (take l.i l.fn.steps.added) k);
}
