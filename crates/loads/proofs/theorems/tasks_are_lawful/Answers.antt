-- Each clause is a theorem over lists of tasks.
use Rattle.loads.specs.TasksLaws.{tasks_laws, none_same, more_same, marks_are}
use Rattle.loads.proofs.theorems.tasks_are_lawful.Goals as goal

pub returns : goal.returns
returns c = record { lawful = tasks_laws; none = none_same; more = more_same; marks = marks_are }
