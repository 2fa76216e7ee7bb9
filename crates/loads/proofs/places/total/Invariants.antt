use Rattle.std.proofs.Common.{◌≡◌, ℕ, ◌+◌, ◌≤◌, min, filter_map, drop}
use Rattle.loads.specs.Params.{TaskParams}
use Rattle.loads.specs.Tasks.{total}
use Rattle.loads.specs.Places.{Gives}
use Rattle.loads.proofs.places.total.Given as goal

-- What is summed up and what the tasks ahead add are the whole, cut at 2^40.
abbrev pub invariant-loop-place : goal.invariant-loop-place
invariant-loop-place g l = (l.sum ≤ 1099511627776)
    × ((f : TaskParams → ℕ) → Gives g.F.Fn l.amount f
    → min (l.sum + total f (filter_map g.P.Place.stands (drop l.place-index l.places))) 1099511627776 ≡ min (total f (filter_map g.P.Place.stands l.places)) 1099511627776)
