-- The row of what the tasks of the table grow to from their deadlines on is the row of its due.
use Rattle.std.proofs.Common.{◌∙◌, sym, rules}
use Rattle.theory.specs.Rows.{uncut_row}
use Rattle.loads.specs.Tasks.{tasks_meaning, tasks_amounts, total, task_due}
use Rattle.loads.specs.Ranged.{tasks_in}
use Rattle.loads.proofs.PlaceLoops.{slots_stand}
use Rattle.loads.proofs.PlaceRows.{due_grown}
use Rattle.loads.proofs.table.answers.TableSlotLoad.due_row.Goals as goal

pub returns : goal.returns
unfolding tasks_meaning tasks_amounts
returns c =
    let slots = c.args.self.now.slots in
    c.cut_row.ensures.row (λ t. total (λ x. task_due x t) (tasks_in slots)) (
    c.uncut_row-answers.ensures (λ x. x.deadline) (λ x r m. search rules)
    ∙ (λ i. uncut_row (λ t. total (λ x. sym (due_grown x t) i) (slots_stand slots i)) c.args.from)
    )
