use Rattle.std.proofs.Common.{◌≡◌, ℕ, ◌+◌, ◌<◌, min, filter_map, drop}
use Rattle.loads.specs.Params.{TaskParams}
use Rattle.loads.specs.Places.{Gives}
use Rattle.loads.specs.Steps.{reached}
use Rattle.loads.proofs.PlaceRows.{grown_all}
use Rattle.loads.proofs.places.uncut_row.Given as goal

-- At each tick of the row, what it has grown to and what the tasks ahead add are the whole.
abbrev pub invariant-loop-place : goal.invariant-loop-place
invariant-loop-place g l = (f : TaskParams → ℕ) → Gives g.F.Fn l.first f → (i : ℕ) → i < 256
    → min (reached l.steps.added i + grown_all f (l.from + i) (filter_map g.P.Place.stands (drop l.place-index l.places))) 1099511627776 ≡ min (grown_all f (l.from + i) (filter_map g.P.Place.stands l.places)) 1099511627776
