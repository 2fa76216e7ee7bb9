-- The row of what the tasks of the table grow to from tick 0 on is the row, one tick later, of its ready.
use Rattle.std.proofs.Common.{◌≡◌, sym, ◌∙◌, refl, arith, rules, List, [], ◌∷◌}
use Rattle.theory.specs.Rows.{uncut_row}
use Rattle.loads.specs.Params.{TaskParams}
use Rattle.loads.specs.Tasks.{tasks_meaning, tasks_amounts, total, task_ready}
use Rattle.loads.specs.Ranged.{tasks_in, slots_ranged}
use Rattle.loads.proofs.PlaceLoops.{slots_stand}
use Rattle.loads.proofs.PlaceRows.{grown_all, ready_grown_all}
use Rattle.loads.proofs.table.answers.TableSlotLoad.ready_row.Goals as goal

-- Nothing is ready within 0 ticks.
idle : (xs : List TaskParams) → total (λ x. task_ready x 0) xs ≡ 0
idle [] = refl
idle (x ∷ xs) = omega (arith, idle xs)

pub returns : goal.returns
unfolding tasks_meaning tasks_amounts
returns c =
    let slots = c.args.self.now.slots in
    c.cut_next_row.ensures.row (λ s. total (λ x. task_ready x s) (tasks_in slots)) (idle (tasks_in slots)) (
    c.uncut_row-answers.ensures (λ x. 0) (λ x r m. search rules)
    ∙ (λ i. uncut_row (λ t. grown_all (λ x. 0) t (slots_stand slots i)) c.tick_before.result)
    ∙ (λ i. uncut_row (λ t. sym (ready_grown_all (tasks_in slots) (slots_ranged slots) t) i) (c.tick_before.ensures i))
    )
