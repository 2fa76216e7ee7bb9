-- Bytes written in hexadecimal.
use Rattle.std.specs.Prelude.{ℕ, ◌+◌, ◌-◌, ◌*◌, Bool, cond, ◌&&◌, List, [], ◌∷◌, Some, None, Option, nat_le}
use Rattle.std.specs.Option.{option_map}

-- `b` lies from `low` to `high`.
abbrev pub between : ℕ → ℕ → ℕ → Bool
between low high b = nat_le low b && nat_le b high

-- The value of a digit: 0 to 9, A to F or a to f.
abbrev pub digit : ℕ → Option ℕ
digit b = cond (between 0x30 0x39 b) (Some (b - 0x30)) (cond (between 0x41 0x46 b) (Some (b - 0x41 + 10)) (cond (between 0x61 0x66 b) (Some (b - 0x61 + 10)) None))

-- The byte that two digits write.
abbrev pub pair : Option ℕ → Option ℕ → Option ℕ
pair None low = None
pair (Some h) None = None
pair (Some h) (Some l) = Some (h * 16 + l)

-- A byte in front of bytes.
abbrev pub after : Option ℕ → Option (List ℕ) → Option (List ℕ)
after None rest = None
after (Some b) rest = option_map (λ bs. b ∷ bs) rest

-- The bytes that a text writes, two digits each; nothing if it holds anything else.
abbrev pub unhex : List ℕ → Option (List ℕ)
unhex [] = Some []
unhex (a ∷ []) = None
unhex (a ∷ b ∷ rest) = after (pair (digit a) (digit b)) (unhex rest)
