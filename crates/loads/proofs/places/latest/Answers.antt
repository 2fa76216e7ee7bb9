-- The loop over the places takes in the task of each, if there is one, and at the end none is ahead.
use Rattle.std.proofs.Common.{rules}
use Rattle.loads.proofs.PlaceLoops.{skip, last_turn, last_end}
use Rattle.loads.proofs.places.latest.Goals as goal
use Rattle.loads.proofs.places.latest.Goals.{in-Some, in_default}

pub loop-place-preserved : goal.loop-place-preserved
loop-place-preserved g c = λ t k. elim c.match-task.branch [
  | in-Some w ↦ search (
    rules,
    last_turn
        g.P.Place.stands
        c.args.places.now
        c.loop-place.place-index
        c.place-item.result
        c.loop-place-test.true
        c.place-item.is
        w.in-Some.task
        w.in-Some.ensures
        t
        c.loop-place.last
        w.mark.result
        _
        (k w.in-Some.task w.mark.result record { met = w.mark.ensures })
        (c.loop-place.invariant t k),
  )
  | in_default w ↦ search (rules, skip g.P.Place.stands c.args.places.now c.loop-place.place-index c.place-item.result c.loop-place-test.true c.place-item.is w.in_default.ensures, c.loop-place.invariant t k)
]

pub returns : goal.returns
returns g c = λ t k. last_end g.P.Place.stands c.args.places.now c.loop-place.place-index t c.loop-place.last c.loop-place-test.false (c.loop-place.invariant t k)
