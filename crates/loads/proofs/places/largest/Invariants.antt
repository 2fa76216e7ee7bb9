use Rattle.std.proofs.Common.{◌≡◌, ℕ, max, filter_map, drop}
use Rattle.loads.specs.Params.{TaskParams}
use Rattle.loads.specs.Tasks.{largest}
use Rattle.loads.specs.Places.{Gives}
use Rattle.loads.proofs.places.largest.Given as goal

-- The larger of what is found and of what the tasks ahead have is the whole.
abbrev pub invariant-loop-place : goal.invariant-loop-place
invariant-loop-place g l = (f : TaskParams → ℕ) → Gives g.F.Fn l.amount f
    → max l.most (largest f (filter_map g.P.Place.stands (drop l.place-index l.places))) ≡ largest f (filter_map g.P.Place.stands l.places)
