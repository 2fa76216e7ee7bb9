-- A slot of the code changed is a channel put, and no other changed.
use Rattle.std.proofs.Common.{◌≡◌, ℕ, ◌≤◌, false, ltb, List, map, set, Ok, Option, Result, ap, ◌∙◌}
use Rattle.std.proofs.lemmas.List.{map-set}
use Rattle.std.proofs.lemmas.Bool.{le-ltb}
use Rattle.loads.specs.declared.refusal.Refusal.{Refusal}
use Rattle.loads.specs.declared.entry.Entry.{Entry}
use Rattle.loads.specs.declared.table.Slot.{Slot}
use Rattle.loads.specs.Channels.{Channels, slot_content, held_content, put_at}

pub slot_set : (ss : List Slot) (c : ℕ) (s : Slot) (o : Option Entry) → s ≡ (record { held = o }) → map slot_content (set ss c s) ≡ set (map slot_content ss) c (held_content o)
slot_set ss c s o e = map-set slot_content ss c s ∙ ap (λ (x : Slot). set (map slot_content ss) c (slot_content x)) e

pub changed : (ss : List Slot) (c : ℕ) (s : Slot) (o : Option Entry) → c ≤ 63 → s ≡ (record { held = o })
    → ◌≡◌ {A = Result (Unit {0}) Refusal × Channels} (Ok tt, map slot_content (set ss c s)) (put_at (map slot_content ss) c (held_content o))
changed ss c s o h e =
    let b : ltb 63 c ≡ false = le-ltb 63 c h in
    rw b (ap (λ (l : Channels). let r : Result (Unit {0}) Refusal × Channels = (Ok tt, l) in r) (slot_set ss c s o e))
