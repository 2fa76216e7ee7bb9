-- The loop over the places adds the task of each, if there is one, and at the end none is ahead.
use Rattle.std.proofs.Common.{arith, rules}
use Rattle.loads.proofs.PlaceLoops.{skip, total_turn, total_end}
use Rattle.loads.proofs.places.total.Goals as goal
use Rattle.loads.proofs.places.total.Goals.{in-Some, in_default}

pub loop-place-preserved : goal.loop-place-preserved
loop-place-preserved g c = elim c.match-task.branch [
  | in-Some w ↦ (
    omega arith,
    λ f k. search (
      rules,
      total_turn
          g.P.Place.stands
          c.args.places.now
          c.loop-place.place-index
          c.place-item.result
          c.loop-place-test.true
          c.place-item.is
          w.in-Some.task
          w.in-Some.ensures
          f
          c.loop-place.sum
          w.amount.result
          _
          (k w.in-Some.task w.amount.result record { met = w.amount.ensures })
          (c.loop-place.invariant.1 f k),
    ),
  )
  | in_default w ↦ (
    omega arith,
    λ f k. search (rules, skip g.P.Place.stands c.args.places.now c.loop-place.place-index c.place-item.result c.loop-place-test.true c.place-item.is w.in_default.ensures, c.loop-place.invariant.1 f k),
  )
]

pub returns : goal.returns
returns g c = λ f k. total_end g.P.Place.stands c.args.places.now c.loop-place.place-index f c.loop-place.sum c.loop-place-test.false c.loop-place.invariant.0 (c.loop-place.invariant.1 f k)
