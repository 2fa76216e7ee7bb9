-- What a closure gives of each task that it is called with.
use Rattle.std.specs.Prelude.{◌≡◌}
use Rattle.std.specs.Borrow.{Bor}
use Rattle.std.specs.Fn.{Shared, FnReturns}
use Rattle.loads.specs.declared.task.Task.{Task}
use Rattle.loads.specs.Params.{TaskParams}
use Rattle.loads.specs.Making.{task_params}

-- The parameters of a borrowed task.
abbrev pub params_behind : Bor Task → TaskParams
params_behind t = task_params t.now

-- Each call of the closure gives `f` of the task's parameters.
abbrev pub Gives : {F R : Type 0} → Shared F (Bor Task × Unit {0}) R → F → (TaskParams → R) → Type 0
Gives {F} {R} g amount f = (t : Bor Task) (r : R) → FnReturns g amount (t, tt) r → r ≡ f (params_behind t)
