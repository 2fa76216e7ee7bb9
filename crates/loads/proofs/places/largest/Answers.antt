-- The loop over the places takes in the task of each, if there is one, and at the end none is ahead.
use Rattle.std.proofs.Common.{min, ap, ◌∙◌, rules}
use Rattle.loads.proofs.PlaceLoops.{skip, largest_turn, largest_end}
use Rattle.loads.proofs.places.largest.Goals as goal
use Rattle.loads.proofs.places.largest.Goals.{in-Some, in_default}

pub loop-place-preserved : goal.loop-place-preserved
loop-place-preserved g c = λ f k. elim c.match-task.branch [
  | in-Some w ↦ search (
    rules,
    largest_turn
        g.P.Place.stands
        c.args.places.now
        c.loop-place.place-index
        c.place-item.result
        c.loop-place-test.true
        c.place-item.is
        w.in-Some.task
        w.in-Some.ensures
        f
        c.loop-place.most
        w.amount.result
        _
        (k w.in-Some.task w.amount.result record { met = w.amount.ensures })
        (c.loop-place.invariant f k),
  )
  | in_default w ↦ search (rules, skip g.P.Place.stands c.args.places.now c.loop-place.place-index c.place-item.result c.loop-place-test.true c.place-item.is w.in_default.ensures, c.loop-place.invariant f k)
]

pub returns : goal.returns
returns g c = λ f k. c.min.ensures ∙ ap (λ n. min n 1099511627776) (largest_end g.P.Place.stands c.args.places.now c.loop-place.place-index f c.loop-place.most c.loop-place-test.false (c.loop-place.invariant f k))
