-- The sum over the tasks of the table is its ready, cut at 2^40.
use Rattle.std.proofs.Common.{min, ◌∙◌, rules}
use Rattle.loads.specs.Tasks.{tasks_meaning, tasks_amounts, total, task_ready}
use Rattle.loads.proofs.PlaceLoops.{slots_stand}
use Rattle.loads.proofs.table.answers.TableSlotLoad.ready.Goals as goal

pub returns : goal.returns
unfolding tasks_meaning tasks_amounts
returns c =
    c.total.ensures (λ x. task_ready x c.upto-s.result) (λ x r m. search rules)
    ∙ (λ i. min (total (λ x. task_ready x (c.upto-s.ensures i)) (slots_stand c.args.self.now.slots i)) 1099511627776)
