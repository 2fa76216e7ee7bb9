use Rattle.std.proofs.Common.{◌≡◌, ℕ, filter_map, drop}
use Rattle.theory.specs.Meaning.{last_mark, later}
use Rattle.loads.specs.Tasks.{task_mark}
use Rattle.loads.specs.Places.{Gives}
use Rattle.loads.proofs.PlaceLoops.{last_of}
use Rattle.loads.proofs.places.latest.Given as goal

-- The later of what is found and of what the tasks ahead have is the whole.
abbrev pub invariant-loop-place : goal.invariant-loop-place
invariant-loop-place g l = (t : ℕ) → Gives g.F.Fn l.mark (λ x. last_mark (task_mark x) t)
    → later l.last (last_of (filter_map g.P.Place.stands (drop l.place-index l.places)) t) ≡ last_of (filter_map g.P.Place.stands l.places) t
