-- What the reading calls give, by plain bytes and numbers.
use Rattle.std.specs.Prelude.{◌≡◌, ℕ, zero, suc, ◌+◌, List, [], ◌∷◌, length, drop, Some, None, Ok, Err, Option, Result}
use Rattle.format.specs.declared.fault.ImageFault.{ImageFault}
use Rattle.format.specs.declared.fault.ImageFault.TheVariants.{Cut, Trailing}
use Rattle.format.specs.declared.part.Part.{Part}
use Rattle.format.specs.declared.part.Part.TheVariants as lent
use Rattle.format.specs.Records.{size}
use Rattle.format.specs.Decode.{part, Piece, task_piece, frame_piece, rec_in}

-- A borrowed part, by the bytes that it borrows and their offset.
abbrev pub piece : Part → Piece
piece (lent.Task bytes at) = task_piece bytes.now at
piece (lent.Frame bytes at) = frame_piece bytes.now at

-- An answer with a borrowed part, by plain bytes.
abbrev pub shown : Result (Option Part) ImageFault → Result (Option Piece) ImageFault
shown (Ok (Some p)) = Ok (Some (piece p))
shown (Ok None) = Ok None
shown (Err e) = Err e

-- Where the part begins.
abbrev pub offset : Piece → ℕ
offset (task_piece xs at) = at
offset (frame_piece xs at) = at

-- The part has all the bytes of its kind of record.
abbrev pub Whole : Piece → Type 0
Whole (task_piece xs at) = length xs ≡ 37
Whole (frame_piece xs at) = length xs ≡ 14

-- After the end mark no parts follow; 14 where a byte does.
abbrev pub behind : ℕ → List ℕ → List (Result Piece ImageFault)
behind at [] = []
behind at (x ∷ xs) = Err (Trailing at) ∷ []

-- The parts from `at` on, one after another, and where the bytes are at fault, the fault last. Each part takes at least
-- 2 bytes, so as many turns as bytes are enough.
unfoldable pub pieces : ℕ → ℕ → List ℕ → List (Result Piece ImageFault)
pieces zero at xs = Err (Cut at) ∷ []
pieces (suc n) at xs = elim (part at xs) [
  | Err e ↦ Err e ∷ []
  | Ok o ↦ elim o [
    | None ↦ behind (at + 2) (drop 2 xs)
    | Some p ↦ Ok p ∷ pieces n (at + size (rec_in p)) (drop (size (rec_in p)) xs)
  ]
]

-- The parts of the image `xs` from this place on, and none where there is no place.
abbrev pub pieces_from : List ℕ → Option ℕ → List (Result Piece ImageFault)
pieces_from xs None = []
pieces_from xs (Some at) = pieces (length xs) at (drop at xs)

-- An item of the iterator over the parts, by plain bytes.
abbrev pub seen : Result Part ImageFault → Result Piece ImageFault
seen (Ok p) = Ok (piece p)
seen (Err e) = Err e
