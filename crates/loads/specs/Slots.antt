-- The inner table, whose one element is lent.
use Rattle.std.proofs.Common.{◌∙◌, length-set}
use Rattle.std.specs.Prelude.{ℕ, slice_set}
use Rattle.loads.specs.declared.table.Table.{Table}

-- The table with `w` at `i`, and no other element changed.
abbrev pub with_slot : {T : Type 0} → Table T → ℕ → T → Table T
with_slot t i w = record { slots = slice_set t.slots i w; full = length-set t.slots i w ∙ t.full }
