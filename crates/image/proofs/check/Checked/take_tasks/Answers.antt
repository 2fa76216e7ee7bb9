-- Each turn takes one task more.
use Rattle.std.proofs.Common.{◌≡◌, List, [], ◌∷◌, ◌++◌, map, take, sym, ap, ◌∙◌, arith, length-set, take_all}
use mathlib.Core.List.{map-append}
use Rattle.std.proofs.lemmas.List.{take_more, take_more_set}
use Rattle.plan.specs.Admissions.{Placed, placed}
use Rattle.format.specs.Decode.{tasks_in, frames_in}
use Rattle.format.proofs.TasksAt.{tasks_few}
use Rattle.image.specs.Whole.{records_of}
use Rattle.image.proofs.InOrder.{ordered}
use Rattle.image.proofs.check.Checked.take_tasks.Goals as goal

pub loop-n-preserved : goal.loop-n-preserved
loop-n-preserved c =
    let k = c.args.self.now in
    let rs = records_of k in
    let n = c.loop-n.n in
    let es = c.loop-n.places in
    let e = c.entry.result in
    let few = tasks_few k.image.now (tasks_in rs) (frames_in rs) (ordered k.image.now rs k.read) in
    record {
      places = length-set es n e ∙ c.loop-n.invariant.places;
      taken = ap (map placed) (take_more_set es n e (omega (arith, c.loop-n.invariant.places, c.loop-n-test.true, k.count, few)))
          ∙ map-append placed (take n es) (e ∷ [])
          ∙ ap (λ (ts : List Placed). ts ++ (placed e ∷ [])) c.loop-n.invariant.taken
          ∙ ap (λ (t : Placed). take n (tasks_in rs) ++ (t ∷ [])) c.entry.ensures
          ∙ sym (take_more (tasks_in rs) n (placed e) (omega (arith, c.loop-n-test.true, k.count)));
    }

pub listed : goal.listed
listed c =
    let k = c.args.self.now in
    let rs = records_of k in
    omega (arith, c.loop-n-test.true, c.loop-n.invariant.places, k.count, tasks_few k.image.now (tasks_in rs) (frames_in rs) (ordered k.image.now rs k.read))

pub bounds-places-n : goal.bounds-places-n
bounds-places-n c =
    let k = c.args.self.now in
    let rs = records_of k in
    omega (arith, c.loop-n-test.true, k.count, tasks_few k.image.now (tasks_in rs) (frames_in rs) (ordered k.image.now rs k.read))

pub returns : goal.returns
returns c =
    let k = c.args.self.now in
    let ts = tasks_in (records_of k) in
    let all : c.loop-n.n ≡ k.tasks = omega (arith, c.loop-n-test.false, c.loop-n.auto.n-end) in
    ap (λ n. map placed (take n c.loop-n.places)) (sym all) ∙ c.loop-n.invariant.taken ∙ ap (λ n. take n ts) all ∙ take_all k.tasks ts (omega (arith, k.count))
