-- The code's records keep the ranges, so the parameters that they hold do.
use Rattle.std.specs.Prelude.{ℕ, zero, suc, List, [], ◌∷◌, ◌++◌, map, length, replicate, Some, None, Option, slice_set}
use Rattle.loads.specs.declared.task.Task.{Task}
use Rattle.loads.specs.declared.entry.Entry.{Entry}
use Rattle.loads.specs.declared.table.Slot.{Slot}
use Rattle.loads.specs.declared.table.Table.{Table}
use Rattle.theory.specs.Jobs.{All}
use Rattle.theory.specs.Meaning.{Laws}
use Rattle.loads.specs.Params.{TaskParams, TaskRanges}
use Rattle.loads.specs.Making.{task_params}
use Rattle.loads.specs.Channels.{Content, Channels, filled, put_before, held_content, slot_content, channels, table}
use Rattle.loads.specs.TasksLaws.{tasks_laws}

pub task_ranged : (x : Task) → TaskRanges (task_params x)
task_ranged x = record {
  cost_least = x.cost_range.0;
  cost_most = x.cost_range.1;
  period_least = x.period_range.0;
  period_most = x.period_range.1;
  deadline_least = x.deadline_range.0;
  deadline_most = x.deadline_range.1;
  jitter_period = x.jitter_below.0;
  jitter_deadline = x.jitter_below.1;
  section_cost = x.section_within.0;
  section_most = x.section_within.1;
}

-- The tasks of slots, by their parameters.
abbrev pub tasks_in : List Slot → List TaskParams
tasks_in ss = filled (map slot_content ss)

put_ranged : (o : Option Entry) (xs : List TaskParams) → All TaskRanges xs → All TaskRanges (put_before (held_content o) xs)
put_ranged None xs h = h
put_ranged (Some e) xs h = (task_ranged e.task, h)

pub slots_ranged : (ss : List Slot) → All TaskRanges (tasks_in ss)
slots_ranged [] = tt
slots_ranged (s ∷ ss) = put_ranged s.held (tasks_in ss) (slots_ranged ss)

-- Channels whose tasks keep the ranges.
abbrev pub Ranged : Channels → Type 0
Ranged l = All TaskRanges (filled l)

pub blank_ranged : (n : ℕ) → Ranged (replicate n None)
blank_ranged zero = tt
blank_ranged (suc n) = blank_ranged n

put_over : (o : Option Content) (xs ys : List TaskParams) → (All TaskRanges xs → All TaskRanges ys) → All TaskRanges (put_before o xs) → All TaskRanges (put_before o ys)
put_over None xs ys f h = f h
put_over (Some k) xs ys f h = (h.0, f h.1)

put_rest : (o : Option Content) (xs : List TaskParams) → All TaskRanges (put_before o xs) → All TaskRanges xs
put_rest None xs h = h
put_rest (Some k) xs h = h.1

abbrev pub ContentRanged : Option Content → Type 0
ContentRanged None = Unit {0}
ContentRanged (Some k) = TaskRanges k.params

put_first : (o : Option Content) (xs : List TaskParams) → ContentRanged o → All TaskRanges xs → All TaskRanges (put_before o xs)
put_first None xs r h = h
put_first (Some k) xs r h = (r, h)

-- One channel changed: the tasks still keep the ranges, if the new one does.
pub set_ranged : (l : Channels) (c : ℕ) (o : Option Content) → ContentRanged o → Ranged l → Ranged (slice_set l c o)
set_ranged [] c o r h = tt
set_ranged (x ∷ l) zero o r h = put_first o (filled l) r (put_rest x (filled l) h)
set_ranged (x ∷ l) (suc c) o r h = put_over x (filled l) (filled (slice_set l c o)) (set_ranged l c o r) h

-- Channels emptied from a place on.
pub cut_ranged : (pre r : Channels) → Ranged (pre ++ r) → Ranged (pre ++ replicate (length r) None)
cut_ranged [] r h = blank_ranged (length r)
cut_ranged (o ∷ pre) r h = put_over o (filled (pre ++ r)) (filled (pre ++ replicate (length r) None)) (cut_ranged pre r) h

pub table_laws : (t : Table Slot) → Laws (table (channels t))
table_laws t = tasks_laws (tasks_in t.slots) (slots_ranged t.slots)
