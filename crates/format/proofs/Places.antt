-- Parts written over a slice one after another are the joined bytes written at once.
use Rattle.std.proofs.Common.{◌≡◌, ℕ, ◌+◌, ◌/◌, ◌%◌, ◌<◌, ◌≤◌, List, [], ◌∷◌, ◌++◌, length, take, drop, sym, refl, ap, ◌∙◌, div-one, arith, length-append}
use lib.Seq.{paste}
use Rattle.std.proofs.lemmas.List.Edits.{paste_all, paste-paste, paste_none}
use Rattle.format.specs.Bytes.{bytes}
use Rattle.format.specs.Writes.{placed}

-- `placed` is what the library calls `paste`.
is_paste : (out : List ℕ) (at : ℕ) (xs : List ℕ) (n : ℕ) → n ≡ length xs → paste out at xs n ≡ placed out at xs
is_paste out at xs n e = paste_all out at xs n e ∙ ap (λ (k : ℕ). take at out ++ (xs ++ drop (at + k) out)) e

-- Two parts, one after the other.
pub placed_more : (out : List ℕ) (at k : ℕ) (xs ys : List ℕ) → k ≡ length xs → at ≤ length out → placed (placed out at xs) (at + k) ys ≡ placed out at (xs ++ ys)
placed_more out at k xs ys e h =
    ap (λ (o : List ℕ). placed o (at + k) ys) (sym (is_paste out at xs k e))
    ∙ sym (is_paste (paste out at xs k) (at + k) ys (length ys) refl)
    ∙ paste-paste out at xs ys k (length ys) e refl h
    ∙ is_paste out at (xs ++ ys) (k + length ys) (ap (λ (n : ℕ). n + length ys) e ∙ sym (length-append xs ys))

-- Writing no bytes changes nothing.
pub placed_none : (out : List ℕ) (at : ℕ) → out ≡ placed out at []
placed_none out at = paste_none out at [] ∙ is_paste out at [] 0 refl

-- What `to_be_bytes` gives.
pub be_4 : (n : ℕ) → n / 16777216 % 256 ∷ n / 65536 % 256 ∷ n / 256 % 256 ∷ n % 256 ∷ [] ≡ bytes 4 n
be_4 n = ap (λ (k : ℕ). n / 16777216 % 256 ∷ n / 65536 % 256 ∷ n / 256 % 256 ∷ k % 256 ∷ []) (sym (div-one n))

pub be_2 : (n : ℕ) → n / 256 % 256 ∷ n % 256 ∷ [] ≡ bytes 2 n
be_2 n = ap (λ (k : ℕ). n / 256 % 256 ∷ k % 256 ∷ []) (sym (div-one n))

pub be_1 : (n : ℕ) → n < 256 → n ∷ [] ≡ bytes 1 n
be_1 n h = let e : n ≡ n / 1 % 256 = omega arith in ap (λ (k : ℕ). k ∷ []) e
