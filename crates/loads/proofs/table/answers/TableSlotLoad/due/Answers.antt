-- The sum over the tasks of the table is its due, cut at 2^40.
use Rattle.std.proofs.Common.{min, ◌∙◌, rules}
use Rattle.loads.specs.Tasks.{tasks_meaning, tasks_amounts, total, task_due}
use Rattle.loads.proofs.PlaceLoops.{slots_stand}
use Rattle.loads.proofs.table.answers.TableSlotLoad.due.Goals as goal

pub returns : goal.returns
unfolding tasks_meaning tasks_amounts
returns c =
    c.total.ensures (λ x. task_due x c.upto-t.result) (λ x r m. search rules)
    ∙ (λ i. min (total (λ x. task_due x (c.upto-t.ensures i)) (slots_stand c.args.self.now.slots i)) 1099511627776)
