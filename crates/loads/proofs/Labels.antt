-- A label looked for slot by slot gives `found_from`.
use Rattle.std.proofs.Common.{◌≡◌, ℕ, ◌+◌, cond, List, [], ◌∷◌, map, Some, Option, refl, ap, ◌∙◌}
use Rattle.std.specs.List.{position, position_from}
use Rattle.std.proofs.lemmas.Iterator.Adapters.{position_from-zero}
use Rattle.loads.specs.declared.table.Slot.{Slot}
use Rattle.loads.specs.Channels.{slot_content, bears, found_from}

from_slot : (ss : List Slot) (label : List ℕ) (c : ℕ) → position_from (λ s. bears (slot_content s) label) c ss ≡ found_from c (map slot_content ss) label
from_slot [] label c = refl
from_slot (s ∷ ss) label c = ap (λ (o : Option ℕ). cond (bears (slot_content s) label) (Some c) o) (from_slot ss label (c + 1))

pub found_is : (ss : List Slot) (label : List ℕ) → position (λ s. bears (slot_content s) label) ss ≡ found_from 0 (map slot_content ss) label
found_is ss label = position_from-zero (λ s. bears (slot_content s) label) ss ∙ from_slot ss label 0
