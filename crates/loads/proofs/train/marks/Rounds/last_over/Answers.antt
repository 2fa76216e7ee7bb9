-- The fold over all beginnings of the circle gives the last mark of any of them.
use Rattle.std.proofs.Common.{map, length, None, ◌∙◌, arith, rules, tests}
use Rattle.std.proofs.lemmas.Iterator.{YieldsList-from_map, YieldsList-from_range}
use Rattle.std.proofs.lemmas.Iterator.Consumers.{fold_from_yields_List}
use Rattle.theory.specs.Meaning.{last_mark, later}
use Rattle.loads.specs.Train.{circle_from, mark_from}
use Rattle.loads.specs.TrainRests.{params}
use Rattle.loads.proofs.TrainMarks.{last_fold}
use Rattle.loads.proofs.train.marks.Rounds.last_over.Goals as goal

pub returns : goal.returns
returns c =
    let s = c.args.self.now in
    let n = length s.frames.now in
    fold_from_yields_List _ later None c.fold.result c.fold.ensures.ran
    (YieldsList-from_map _ (λ k. last_mark (λ u. mark_from s.round u 0 (map params (circle_from k s.frames.now))) s.t) (YieldsList-from_range 0 n n c.map.ensures.source (omega arith)) c.map.ensures.closure (λ x r q k. search rules))
    (λ a x b q k. search (rules, tests))
    ∙ last_fold (λ k u. mark_from s.round u 0 (map params (circle_from k s.frames.now))) s.t n
