use Rattle.std.proofs.Common.{◌+◌, ap, ◌∙◌}
use mathlib.Core.Path.{fun_ext}
use Rattle.theory.specs.Rows.{uncut_row}
use Rattle.loads.specs.Train.{frames_of, train_amounts}
use Rattle.loads.specs.TrainRanges.{frames_ranged}
use Rattle.loads.specs.TrainLaws.{ready_none}
use Rattle.loads.proofs.TrainRows.{ready_row}
use Rattle.loads.proofs.train.load.RampTrainLoad.ready_row.Goals as goal

pub returns : goal.returns
returns c =
    let fs = frames_of c.args.self.now in
    c.cut_next_row.ensures.row (train_amounts fs).ready (ready_none fs) (
    c.row_of-answers.ensures ∙ ap (λ g. uncut_row g c.tick_before.result) (fun_ext (λ s. ready_row fs (frames_ranged c.args.self.now) s))
    ∙ ap (uncut_row (λ s. (train_amounts fs).ready (s + 1))) c.tick_before.ensures
    )
