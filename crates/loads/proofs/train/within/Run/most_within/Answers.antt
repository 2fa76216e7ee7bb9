-- The fold over all beginnings of the circle gives the largest cost of any of them.
use Rattle.std.proofs.Common.{◌≡◌, max, map, length, ◌∙◌, arith, rules, tests}
use Rattle.std.specs.List.{fold, range_with_len}
use Rattle.std.proofs.lemmas.Iterator.{YieldsList-from_map, YieldsList-from_range}
use Rattle.std.proofs.lemmas.Iterator.Consumers.{fold_from_yields_List}
use Rattle.loads.specs.Train.{circle_from}
use Rattle.loads.specs.TrainRests.{cost_within}
use Rattle.loads.proofs.TrainSums.{most_fold, most_small}
use Rattle.loads.proofs.train.within.Run.most_within.Goals as goal

pub returns : goal.returns
returns c =
    let ls = c.args.self.now.frames.now in
    let e : c.fold.result ≡ fold max 0 (map (λ k. cost_within 0 (circle_from k ls)) (range_with_len 0 (length ls))) =
    fold_from_yields_List _ max 0 c.fold.result c.fold.ensures.ran
    (YieldsList-from_map _ (λ k. cost_within 0 (circle_from k ls)) (YieldsList-from_range 0 (length ls) (length ls) c.map.ensures.source (omega arith)) c.map.ensures.closure (λ x r q k. search rules))
    (λ a x b q k. search (rules, tests)) in
    let s = e ∙ most_fold (λ k. cost_within 0 (circle_from k ls)) (length ls) in
    record { same = s; small = omega (arith, most_small ls c.args.self.now.few) }
