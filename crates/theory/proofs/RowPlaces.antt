-- The places of a row, and how it is written one after another.
use Rattle.std.proofs.Common.{◌≡◌, ℕ, zero, suc, ◌+◌, ◌-◌, ◌^◌, ◌<◌, ◌≤◌, min, List, get_or, set, take, map, length, [], ◌∷◌, ◌++◌, ap, ap₂, sym, ◌∙◌, zero-add, length-take, arith}
use Rattle.std.specs.List.{range_with_len}
use Rattle.std.proofs.lemmas.List.{take_all, take_more_set, get_or-take}
use Rattle.std.proofs.lemmas.Grind.{same_number_lists}
use Rattle.std.proofs.lemmas.List.FromFn.{get_or-map-range_with_len, map-range_with_len_more, length-map-range_with_len, fill_by_all}
use Rattle.theory.specs.Meaning.{answered}
use Rattle.theory.specs.Rows.{row, uncut_row, cut_places, moved_places}

pub row_place : (f : ℕ → ℕ) (w i d : ℕ) → i < 256 → get_or (row f w) i d ≡ answered f (w + i)
unfolding row
row_place f w i d l = get_or-map-range_with_len (λ i. answered f (w + i)) 0 256 i i d l (omega arith)

-- In a row from w on, what stands at tick v.
pub row_at : (f : ℕ → ℕ) (w v : ℕ) (xs : List ℕ) → xs ≡ row f w → w ≤ v → v < w + 256 → get_or xs (v - w) 0 ≡ answered f v
row_at f w v xs e a b =
    let s : w + (v - w) ≡ v = omega arith in
    ap (λ ys. get_or ys (v - w) 0) e ∙ row_place f w (v - w) 0 (omega arith) ∙ ap (answered f) s

-- The first i places of a row.
abbrev pub Written : (ℕ → ℕ) → ℕ → List ℕ → ℕ → Type 0
Written f w ys i = take i ys ≡ map (λ k. answered f (w + k)) (range_with_len 0 i)

pub written_more : (f : ℕ → ℕ) (w : ℕ) (ys : List ℕ) (i y : ℕ) → i < length ys → y ≡ answered f (w + i) → Written f w ys i → Written f w (set ys i y) (i + 1)
written_more f w ys i y h e q = take_more_set ys i y h ∙ ap₂ (λ zs z. zs ++ (z ∷ [])) q e ∙ sym (map-range_with_len_more (λ k. answered f (w + k)) 0 i i (zero-add i))

pub written_whole : (f : ℕ → ℕ) (w : ℕ) (ys : List ℕ) (i : ℕ) → i ≡ 256 → length ys ≡ 256 → Written f w ys i → ys ≡ row f w
unfolding row
written_whole f w ys i e h q = sym (take_all i ys (omega arith)) ∙ q ∙ ap (λ m. map (λ k. answered f (w + k)) (range_with_len 0 m)) e

-- A question at a tick that is cut at the largest u64 answers as without that cut.
pub answered_cut : (f : ℕ → ℕ) (t : ℕ) → answered f (min t 18446744073709551615) ≡ answered f t
answered_cut f t = ap (λ x. min (f x) (2 ^ 40)) (let e : min (min t 18446744073709551615) 100000000 ≡ min t 100000000 = omega arith in e)

-- An uncut row, in which each place up to i has what stands in the row there.
module _ (f : ℕ → ℕ) (w l : ℕ) (xs : List ℕ) (e : xs ≡ uncut_row f w) (k : l ≡ min (100000000 - min w 100000000) 255) where
  uncut_place : (j : ℕ) → j < 256 → get_or xs (min j l) 0 ≡ answered f (w + j)
  unfolding uncut_row
  uncut_place j h =
      let n : min j l < 256 = omega arith in
      let p : get_or (uncut_row f w) (min j l) 0 ≡ min (f (min w 100000000 + min j l)) (2 ^ 40) =
      get_or-map-range_with_len (λ i. min (f (min w 100000000 + i)) (2 ^ 40)) 0 256 (min j l) (min j l) 0 n (omega arith) in
      let q : min w 100000000 + min j l ≡ min (w + j) 100000000 = omega arith in
      ap (λ ys. get_or ys (min j l) 0) e ∙ p ∙ ap (λ v. min (f v) (2 ^ 40)) q

  uncut_length : length xs ≡ 256
  unfolding uncut_row
  uncut_length = ap length e ∙ length-map-range_with_len (λ i. min (f (min w 100000000 + i)) (2 ^ 40)) 0 256

  pub cut_whole : (ys : List ℕ) → length ys ≡ length xs → ((j : ℕ) → j < 256 → get_or ys j 0 ≡ get_or xs (min j l) 0) → ys ≡ row f w
  unfolding row
  cut_whole ys h b = fill_by_all (λ i. answered f (w + i)) ys 256 0 (h ∙ uncut_length) (λ j n. b j n ∙ uncut_place j n)

-- An uncut row that begins one tick earlier, of what stands at the next ticks.
next_place : (f : ℕ → ℕ) (w j : ℕ) (xs : List ℕ) → xs ≡ uncut_row (λ n. f (n + 1)) w → w ≤ 100000000 → j < 256 → get_or xs j 0 ≡ min (f (w + j + 1)) (2 ^ 40)
unfolding uncut_row
next_place f w j xs e k h =
    let p : get_or (uncut_row (λ n. f (n + 1)) w) j 0 ≡ min (f (min w 100000000 + j + 1)) (2 ^ 40) =
    get_or-map-range_with_len (λ i. min (f (min w 100000000 + i + 1)) (2 ^ 40)) 0 256 j j 0 h (omega arith) in
    let q : min w 100000000 ≡ w = omega arith in
    ap (λ ys. get_or ys j 0) e ∙ p ∙ ap (λ v. min (f (v + j + 1)) (2 ^ 40)) q

pub next_uncut : (f : ℕ → ℕ) (w : ℕ) (xs : List ℕ) → 1 ≤ w → xs ≡ uncut_row (λ n. f (n + 1)) (min w 100000000 - 1) → xs ≡ uncut_row f w
unfolding uncut_row
next_uncut f w xs h e =
    let v = min w 100000000 - 1 in
    fill_by_all (λ i. min (f (min w 100000000 + i)) (2 ^ 40)) xs 256 0
    (ap length e ∙ length-map-range_with_len (λ i. min (f (min v 100000000 + i + 1)) (2 ^ 40)) 0 256)
    (λ j n. let q : v + j + 1 ≡ min w 100000000 + j = omega arith in next_place f v j xs e (omega arith) n ∙ ap (λ u. min (f u) (2 ^ 40)) q)

pub moved_whole : (f : ℕ → ℕ) (xs ys : List ℕ) → f 0 ≡ 0 → xs ≡ uncut_row (λ n. f (n + 1)) 0 → length ys ≡ 256 → get_or ys 0 0 ≡ 0
    → ((j : ℕ) → j + 1 < 256 → get_or ys (j + 1) 0 ≡ get_or xs j 0) → ys ≡ row f 0
unfolding row
moved_whole f xs ys z e h s m = fill_by_all (λ i. answered f (0 + i)) ys 256 0 h at
  where
    at : (j : ℕ) → j < 256 → get_or ys j 0 ≡ answered f (0 + j)
    at zero n = omega (arith, z, s)
    at (suc j) n =
        let p : suc j ≡ j + 1 = omega arith in
        let q : 0 + j + 1 ≡ min (0 + suc j) 100000000 = omega arith in
        ap (λ i. get_or ys i 0) p ∙ m j (omega arith) ∙ next_place f 0 j xs e (omega arith) (omega arith) ∙ ap (λ u. min (f u) (2 ^ 40)) q

pub cut_by_place : (w : ℕ) (xs ys : List ℕ) → length ys ≡ 256 → ((j : ℕ) → j < 256 → get_or ys j 0 ≡ get_or xs (min j (100000000 - min w 100000000)) 0) → ys ≡ cut_places w xs
unfolding cut_places
cut_by_place w xs ys h at = fill_by_all (λ i. get_or xs (min i (100000000 - min w 100000000)) 0) ys 256 0 h at

pub moved_by_place : (xs ys : List ℕ) → length xs ≡ 256 → length ys ≡ 256 → get_or ys 0 0 ≡ 0
    → ((j : ℕ) → j + 1 < 256 → get_or ys (j + 1) 0 ≡ get_or xs j 0) → ys ≡ moved_places xs
moved_by_place xs ys h n s m = same_number_lists ys (0 ∷ take 255 xs) (omega (arith, length-take 255 xs)) (λ j k. at j (omega arith))
  where
    at : (j : ℕ) → j < 256 → get_or ys j 0 ≡ get_or (0 ∷ take 255 xs) j 0
    at zero l = s
    at (suc j) l =
        let p : suc j ≡ j + 1 = omega arith in
        ap (λ i. get_or ys i 0) p ∙ m j (omega arith) ∙ sym (get_or-take 255 xs j 0 (omega arith))
