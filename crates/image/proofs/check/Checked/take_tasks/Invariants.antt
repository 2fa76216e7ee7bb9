use Rattle.std.proofs.Common.{◌≡◌, map, take, length}
use Rattle.plan.specs.Admissions.{placed}
use Rattle.format.specs.Decode.{tasks_in}
use Rattle.image.specs.Whole.{records_of}
use Rattle.image.proofs.check.Checked.take_tasks.Given as goal

-- The first n are taken.
abbrev pub invariant-loop-n : goal.invariant-loop-n
invariant-loop-n l = record {
  places : length l.places ≡ 64;
  taken : map placed (take l.n l.places) ≡ take l.n (tasks_in (records_of l.self));
}
