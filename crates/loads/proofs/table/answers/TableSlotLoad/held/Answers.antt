-- The largest over the tasks of the table is its held, cut at 2^40.
use Rattle.std.proofs.Common.{min, ◌∙◌, rules}
use Rattle.loads.specs.Tasks.{tasks_meaning, tasks_amounts, largest, task_held}
use Rattle.loads.proofs.PlaceLoops.{slots_stand}
use Rattle.loads.proofs.table.answers.TableSlotLoad.held.Goals as goal

pub returns : goal.returns
unfolding tasks_meaning tasks_amounts
returns c =
    c.largest.ensures (λ x. task_held x c.upto-t.result) (λ x r m. search rules)
    ∙ (λ i. min (largest (λ x. task_held x (c.upto-t.ensures i)) (slots_stand c.args.self.now.slots i)) 1099511627776)
