-- A label: 1 to 16 bytes of 0x21 to 0x7E, then zeros.
use Rattle.std.specs.Prelude.{ℕ, Bool, true, false, cond, ◌&&◌, List, [], ◌∷◌, ◌==◌, nat_le}

-- A byte that may stand in a label.
abbrev pub printable : ℕ → Bool
printable b = nat_le 0x21 b && nat_le b 0x7E

-- Every byte is 0.
abbrev pub zeros : List ℕ → Bool
zeros [] = true
zeros (b ∷ bs) = b == 0 && zeros bs

-- Printable bytes, then zeros.
abbrev pub padded_text : List ℕ → Bool
padded_text [] = true
padded_text (b ∷ bs) = cond (printable b) (padded_text bs) (zeros (b ∷ bs))

-- At least one printable byte, then printable bytes, and after them only zeros. A label of the code has sixteen bytes.
abbrev pub good_label : List ℕ → Bool
good_label [] = false
good_label (b ∷ bs) = printable b && padded_text bs
