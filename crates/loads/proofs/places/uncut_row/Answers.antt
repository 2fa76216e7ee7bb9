use Rattle.std.proofs.Common.{◌+◌, ◌^◌, min, filter_map, ap, ◌∙◌, arith, rules}
use Rattle.loads.specs.declared.steps.Steps.{Steps}
use Rattle.loads.specs.Steps.{reached}
use Rattle.loads.proofs.PlaceLoops.{skip}
use Rattle.loads.proofs.PlaceRows.{grown_all, row_turn, row_end, row_is}
use Rattle.loads.proofs.places.uncut_row.Goals as goal
use Rattle.loads.proofs.places.uncut_row.Goals.{in-Some, in_default}

pub loop-place-init : goal.loop-place-init
loop-place-init g c = λ f k i h. omega (arith, c.new-steps.ensures i h)

pub loop-place-preserved : goal.loop-place-preserved
loop-place-preserved g c = λ f k i h. elim c.match-task.branch [
  | in-Some w ↦ row_turn
      g.P.Place.stands
      c.args.places.now
      c.loop-place.place-index
      c.place-item.result
      c.loop-place-test.true
      c.place-item.is
      w.in-Some.task
      w.in-Some.ensures
      f
      (c.upto-from.result + i)
      (reached c.loop-place.steps.added i)
      (reached c.match-task.steps.added i)
      w.first.result
      1099511627776
      _
      (k w.in-Some.task w.first.result record { met = w.first.ensures })
      (ap (λ (s : Steps). min (reached s.added i) 1099511627776) w.steps-is ∙ w.add.ensures i h)
      (c.loop-place.invariant f k i h)
  | in_default w ↦ search (rules, skip g.P.Place.stands c.args.places.now c.loop-place.place-index c.place-item.result c.loop-place-test.true c.place-item.is w.in_default.ensures, c.loop-place.invariant f k i h)
]

pub returns : goal.returns
returns g c = λ f k.
    let all = filter_map g.P.Place.stands c.args.places.now in
    row_is (λ t. grown_all f t all) (λ i. min (reached c.loop-place.steps.added i) (2 ^ 40)) c.args.from c.upto-from.result c.row.result c.upto-from.ensures c.row.ensures
    (λ i h. let e = row_end g.P.Place.stands c.args.places.now c.loop-place.place-index f (c.upto-from.result + i) (reached c.loop-place.steps.added i) 1099511627776 c.loop-place-test.false (c.loop-place.invariant f k i h) in
    omega arith)
