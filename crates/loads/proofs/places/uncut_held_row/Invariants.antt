use Rattle.std.proofs.Common.{◌≡◌, ℕ, ◌+◌, ◌-◌, ◌<◌, max, filter_map, drop}
use Rattle.loads.specs.Tasks.{largest, task_held}
use Rattle.loads.specs.Steps.{topped}
use Rattle.loads.proofs.places.uncut_held_row.Given as goal

-- At each tick of the row, the larger of what is found and of what the tasks ahead hold is the whole.
abbrev pub invariant-loop-place : goal.invariant-loop-place
invariant-loop-place g l = (i : ℕ) → i < 256
    → max (topped l.tops.at (255 - i)) (largest (λ x. task_held x (l.from + i)) (filter_map g.P.Place.stands (drop l.place-index l.places))) ≡ largest (λ x. task_held x (l.from + i)) (filter_map g.P.Place.stands l.places)
