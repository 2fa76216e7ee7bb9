-- The 64 channels of a task table: what they hold, by plain numbers, and what that means.
use Rattle.std.specs.Prelude.{ℕ, ◌+◌, Bool, true, false, cond, ◌&&◌, List, [], ◌∷◌, map, replicate, Some, None, Ok, Err, Option, Result, ◌==◌, nat_lt, slice_index_or, slice_set}
use Rattle.loads.specs.declared.refusal.Refusal.{Refusal}
use Rattle.loads.specs.declared.refusal.Refusal.TheVariants.{NoChannel}
use Rattle.loads.specs.declared.entry.Entry.{Entry}
use Rattle.loads.specs.declared.table.Slot.{Slot}
use Rattle.loads.specs.declared.table.Table.{Table}
use Rattle.theory.specs.Meaning.{Meaning}
use Rattle.loads.specs.Params.{TaskParams}
use Rattle.loads.specs.Making.{task_params}
use Rattle.loads.specs.Tasks.{tasks_meaning}

-- What a filled channel holds: the sixteen bytes of a label, and a task's parameters.
pub record Content : Type 0 where
  pub label : List ℕ
  pub params : TaskParams

-- The channels, from channel 0 on, each empty or filled.
abbrev pub Channels : Type 0
Channels = List (Option Content)

-- 64 empty channels.
abbrev pub blank : Channels
blank = replicate 64 None

-- The task of a filled channel before other tasks.
abbrev pub put_before : Option Content → List TaskParams → List TaskParams
put_before None xs = xs
put_before (Some c) xs = c.params ∷ xs

-- The tasks of the filled channels, by rising channel.
abbrev pub filled : Channels → List TaskParams
filled [] = []
filled (o ∷ l) = put_before o (filled l)

-- What channels mean: their tasks side by side.
abbrev pub table : Channels → Meaning
table l = tasks_meaning (filled l)

-- What the code's records hold, by plain numbers: an entry, what a slot holds, a slot, and a table.
abbrev pub content : Entry → Content
content e = record { label = e.label; params = task_params e.task }

abbrev pub held_content : Option Entry → Option Content
held_content None = None
held_content (Some e) = Some (content e)

abbrev pub slot_content : Slot → Option Content
slot_content s = held_content s.held

-- The parameters of the task in a slot, if there is one.
abbrev pub held_params : Option Entry → Option TaskParams
held_params None = None
held_params (Some e) = Some (task_params e.task)

abbrev pub slot_params : Slot → Option TaskParams
slot_params s = held_params s.held

abbrev pub channels : Table Slot → Channels
channels t = map slot_content t.slots

-- The same sixteen bytes.
abbrev pub same : List ℕ → List ℕ → Bool
same [] [] = true
same [] (y ∷ ys) = false
same (x ∷ xs) [] = false
same (x ∷ xs) (y ∷ ys) = x == y && same xs ys

-- The channel is filled and has that label.
abbrev pub bears : Option Content → List ℕ → Bool
bears None label = false
bears (Some c) label = same c.label label

-- The lowest filled channel with that label, where the first of the list is channel c.
abbrev pub found_from : ℕ → Channels → List ℕ → Option ℕ
found_from c [] label = None
found_from c (o ∷ l) label = cond (bears o label) (Some c) (found_from (c + 1) l label)

-- What a channel holds, and 7 for one that is not there.
abbrev pub held_at : Channels → ℕ → Result (Option Content) Refusal
held_at l c = cond (nat_lt 63 c) (Err NoChannel) (Ok (slice_index_or l c None))

-- The channels with `h` in channel c, and no other changed; 7, and all as before, for one that is not there.
abbrev pub put_at : Channels → ℕ → Option Content → Result (Unit {0}) Refusal × Channels
put_at l c h = cond (nat_lt 63 c) (Err NoChannel, l) (Ok tt, slice_set l c h)

-- The same view of an answer that holds the code's records.
abbrev pub read_content : Result (Option Entry) Refusal → Result (Option Content) Refusal
read_content (Ok o) = Ok (held_content o)
read_content (Err e) = Err e
