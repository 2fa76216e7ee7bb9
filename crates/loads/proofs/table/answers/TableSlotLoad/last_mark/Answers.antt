-- The latest over the tasks of the table is its last mark.
use Rattle.std.proofs.Common.{◌∙◌, rules}
use Rattle.loads.specs.Tasks.{tasks_meaning, tasks_amounts}
use Rattle.loads.proofs.PlaceLoops.{last_of, slots_stand}
use Rattle.loads.proofs.table.answers.TableSlotLoad.last_mark.Goals as goal

pub returns : goal.returns
unfolding tasks_meaning tasks_amounts
returns c = c.latest.ensures c.upto-t.result (λ x r m. search rules) ∙ (λ i. last_of (slots_stand c.args.self.now.slots i) (c.upto-t.ensures i))
