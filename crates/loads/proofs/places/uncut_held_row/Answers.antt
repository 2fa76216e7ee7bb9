use Rattle.std.proofs.Common.{◌+◌, ◌-◌, ◌^◌, max, min, filter_map, ap, ◌∙◌, arith, rules}
use Rattle.loads.specs.declared.steps.tops.Tops.{Tops}
use Rattle.loads.specs.Params.{TaskParams}
use Rattle.loads.specs.Places.{params_behind}
use Rattle.loads.specs.Tasks.{largest, task_held}
use Rattle.loads.specs.Steps.{topped}
use Rattle.loads.proofs.PlaceLoops.{skip, largest_turn, largest_end, after}
use Rattle.loads.proofs.PlaceRows.{row_is}
use Rattle.loads.proofs.places.uncut_held_row.Goals as goal
use Rattle.loads.proofs.places.uncut_held_row.Goals.{in-Some, in_default}

pub loop-place-init : goal.loop-place-init
loop-place-init g c = λ i h. omega (arith, c.new-tops.ensures (255 - i) (omega arith))

pub loop-place-preserved : goal.loop-place-preserved
loop-place-preserved g c = λ i h. elim c.match-task.branch [
  | in-Some w ↦ (
      let f = λ (x : TaskParams). task_held x (c.upto-from.result + i) in
      let t = largest_turn g.P.Place.stands c.args.places.now c.loop-place.place-index c.place-item.result c.loop-place-test.true c.place-item.is w.in-Some.task w.in-Some.ensures
      f (topped c.loop-place.tops.at (255 - i)) (f (params_behind w.in-Some.task)) _ (λ k. f (params_behind w.in-Some.task)) (c.loop-place.invariant i h) in
      ap (λ a. max a (largest f (after g.P.Place.stands c.args.places.now c.loop-place.place-index)))
      (ap (λ (s : Tops). topped s.at (255 - i)) w.tops-is ∙ w.hold.ensures i h) ∙ t
      )
  | in_default w ↦ search (rules, skip g.P.Place.stands c.args.places.now c.loop-place.place-index c.place-item.result c.loop-place-test.true c.place-item.is w.in_default.ensures, c.loop-place.invariant i h)
]

pub returns : goal.returns
returns g c =
    let all = filter_map g.P.Place.stands c.args.places.now in
    row_is (λ t. largest (λ x. task_held x t) all) (λ i. min (topped c.loop-place.tops.at (255 - i)) (2 ^ 40)) c.args.from c.upto-from.result c.row_back.result c.upto-from.ensures c.row_back.ensures
    (λ i h. ap (λ n. min n (2 ^ 40)) (largest_end g.P.Place.stands c.args.places.now c.loop-place.place-index (λ x. task_held x (c.upto-from.result + i)) (topped c.loop-place.tops.at (255 - i)) c.loop-place-test.false (c.loop-place.invariant i h)))
