-- The bytes of an input after a piece was put in at its end.
use Rattle.std.proofs.Common.{◌≡◌, ℕ, ◌+◌, ◌-◌, ◌<◌, ◌≤◌, List, ◌++◌, length, take, sym, ap, ◌∙◌, arith, length-append, length-take-le}
use lib.Seq.{take-append-le, take-append-add}
use borrow.Rule.Slice.PartMut.{put_mid, mid_of, post_of, same_len_mid, mid_len, take_put}
use Rattle.plancheck.specs.declared.input.Input.{Input}
use Rattle.plancheck.specs.Input.{received, Added}

-- As many bytes as before.
pub places_kept : (at : ℕ) (xs ys : List ℕ) → length xs ≡ 4096 → length ys ≡ length (mid_of at (4096 - at) xs) → length (put_mid at (4096 - at) xs ys) ≡ 4096
places_kept at xs ys e h = same_len_mid at (4096 - at) xs ys h ∙ e

-- A piece has no more bytes than there was room for.
pub room_left : (at n : ℕ) (xs ys : List ℕ) → length xs ≡ 4096 → at ≤ 4096 → length ys ≡ length (mid_of at (4096 - at) xs) → n ≤ length ys → at + n ≤ 4096
room_left at n xs ys e h k m = omega (arith, mid_len at 4096 xs (omega arith))

-- Where the input is not full, there is room for a piece.
pub some_room : (at : ℕ) (xs ys : List ℕ) → length xs ≡ 4096 → at < 4096 → length ys ≡ length (mid_of at (4096 - at) xs) → 0 < length ys
some_room at xs ys e h k = omega (arith, mid_len at 4096 xs (omega arith))

-- The bytes before the piece stay.
pub front_kept : (at : ℕ) (xs ys : List ℕ) → length xs ≡ 4096 → at ≤ 4096 → take at (put_mid at (4096 - at) xs ys) ≡ take at xs
front_kept at xs ys e h = take_put at (4096 - at) xs ys (omega arith)

-- And the n bytes after them are the first n of the piece.
pub piece_added : (at n : ℕ) (xs ys : List ℕ) → length xs ≡ 4096 → at ≤ 4096 → n ≤ length ys → take (at + n) (put_mid at (4096 - at) xs ys) ≡ take at xs ++ take n ys
piece_added at n xs ys e h m =
    let l : length (take at xs) ≡ at = length-take-le at xs (omega arith) in
    ap (λ k. take (k + n) (put_mid at (4096 - at) xs ys)) (sym l)
    ∙ take-append-add (take at xs) (ys ++ post_of at (4096 - at) xs) n
    ∙ ap (λ zs. take at xs ++ zs) (take-append-le n ys (post_of at (4096 - at) xs) m)

-- The count is that of the bytes received.
pub counted : (i : Input) → length (received i) ≡ i.count
counted i = length-take-le i.count i.bytes (omega (arith, i.places, i.room))

-- A delivery of n bytes makes the count larger by n.
pub count_grows : {S : Type 0} (gave : S → List ℕ → S → Type 0) (s : S) (i : Input) (n : ℕ) (t : S) (j : Input) → Added gave s i n t j → j.count ≡ i.count + n
count_grows gave s i n t j a =
    omega (arith, counted i, counted j, ap length a.after, length-append (received i) a.piece, a.size)
