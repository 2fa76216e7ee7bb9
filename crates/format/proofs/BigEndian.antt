-- A number is kept by its bytes, and bytes by their number.
use Rattle.std.proofs.Common.{◌≡◌, ℕ, zero, suc, ◌+◌, ◌*◌, ◌/◌, ◌%◌, ◌^◌, ◌<◌, ◌≤◌, List, [], ◌∷◌, length, take, drop, sym, refl, ap, ◌∙◌, ap₂, mod-lt, mod-eq_of_lt, mul_comm, pow-suc, arith, length-drop, length-take}
use native.Mathlib.Nat.{one-le-pow}
use lib.Arith.{mod-mul, digits_div, digits_mod, digits_lt}
use Rattle.std.proofs.ByRecursion.{All-take, All-drop}
use Rattle.format.specs.Bytes.{bytes, value, Bytes}
use Rattle.format.specs.Records.{field}

pub length_bytes : (w n : ℕ) → length (bytes w n) ≡ w
length_bytes zero n = refl
length_bytes (suc w) n = ap suc (length_bytes w n)

pub bytes_bytes : (w n : ℕ) → Bytes (bytes w n)
bytes_bytes zero n = tt
bytes_bytes (suc w) n = (mod-lt (n / 256 ^ w) (omega arith), bytes_bytes w n)

pow_more : (w : ℕ) → 256 ^ suc w ≡ 256 * 256 ^ w
pow_more w = pow-suc 256 w ∙ mul_comm (256 ^ w) 256

pow_pos : (w : ℕ) → 0 < 256 ^ w
pow_pos w = one-le-pow w 256 (omega arith)

-- The bytes of a number that is too large for them hold its remainder.
value_mod : (w n : ℕ) → value (bytes w n) ≡ n % 256 ^ w
value_mod zero n = omega arith
value_mod (suc w) n =
    ap₂ (λ (k v : ℕ). (n / 256 ^ w % 256) * 256 ^ k + v) (length_bytes w n) (value_mod w n)
    ∙ sym (mod-mul n (omega arith) (pow_pos w))
    ∙ ap (λ (k : ℕ). n % k) (sym (pow_more w))

pub value_bytes : (w n : ℕ) → n < 256 ^ w → value (bytes w n) ≡ n
value_bytes w n h = value_mod w n ∙ mod-eq_of_lt h

pub value_lt : (bs : List ℕ) → Bytes bs → value bs < 256 ^ length bs
value_lt [] h = omega arith
value_lt (b ∷ bs) h = rw (pow_more (length bs)) (digits_lt h.0 (value_lt bs h.1))

-- Two lists of bytes of one length with one value are one.
same : (cs bs : List ℕ) → length cs ≡ length bs → Bytes cs → Bytes bs → value cs ≡ value bs → cs ≡ bs
same [] [] l h k e = refl
same [] (b ∷ bs) l h k e = absurd (omega arith)
same (a ∷ cs) [] l h k e = absurd (omega arith)
same (a ∷ cs) (b ∷ bs) l h k e =
    let n : length cs ≡ length bs = omega arith in
    let p : value cs < 256 ^ length bs = rw (← n) (value_lt cs h.1) in
    let q = value_lt bs k.1 in
    let f : a * 256 ^ length bs + value cs ≡ b * 256 ^ length bs + value bs = ap (λ (m : ℕ). a * 256 ^ m + value cs) (sym n) ∙ e in
    ap₂ ◌∷◌
    (sym (digits_div a p) ∙ ap (λ (x : ℕ). x / 256 ^ length bs) f ∙ digits_div b q)
    (same cs bs n h.1 k.1 (sym (digits_mod a p) ∙ ap (λ (x : ℕ). x % 256 ^ length bs) f ∙ digits_mod b q))

pub bytes_value : (bs : List ℕ) → Bytes bs → bytes (length bs) (value bs) ≡ bs
bytes_value bs h = same (bytes (length bs) (value bs)) bs (length_bytes (length bs) (value bs)) (bytes_bytes (length bs) (value bs)) h (value_bytes (length bs) (value bs) (value_lt bs h))

-- The bytes of a field that was read.
pub bytes_field : (i w : ℕ) (xs : List ℕ) → Bytes xs → i + w ≤ length xs → bytes w (field i w xs) ≡ take w (drop i xs)
bytes_field i w xs h l =
    let n : length (take w (drop i xs)) ≡ w = simp (length-take, length-drop) (omega arith) in
    ap (λ (k : ℕ). bytes k (field i w xs)) (sym n) ∙ bytes_value (take w (drop i xs)) (All-take (λ b. b < 256) w (drop i xs) (All-drop (λ b. b < 256) i xs h))
