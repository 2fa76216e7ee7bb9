-- The row of the longest sections that the tasks of the table can hold is the row of its held.
use Rattle.std.proofs.Common.{◌∙◌}
use Rattle.theory.specs.Rows.{uncut_row}
use Rattle.loads.specs.Tasks.{tasks_meaning, tasks_amounts, largest, task_held}
use Rattle.loads.specs.Ranged.{tasks_in}
use Rattle.loads.proofs.PlaceLoops.{slots_stand}
use Rattle.loads.proofs.table.answers.TableSlotLoad.held_row.Goals as goal

pub returns : goal.returns
unfolding tasks_meaning tasks_amounts
returns c =
    let slots = c.args.self.now.slots in
    c.cut_row.ensures.row (λ t. largest (λ x. task_held x t) (tasks_in slots)) (c.uncut_held_row-answers.ensures ∙ (λ i. uncut_row (λ t. largest (λ x. task_held x t) (slots_stand slots i)) c.args.from))
