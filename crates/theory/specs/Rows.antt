-- A row: the answers to a question at 256 ticks one after another.
use Rattle.std.specs.Prelude.{◌≡◌, ℕ, ◌+◌, ◌-◌, ◌^◌, ◌<◌, min, List, ◌∷◌, map, take, cond, nat_eq, slice_index}
use Rattle.std.specs.List.{range_with_len}
use Rattle.std.specs.Fn.{Shared}
use Rattle.theory.specs.Meaning.{answered}

-- What the question about f answers at w, w + 1, .. w + 255.
unfoldable pub row : (ℕ → ℕ) → ℕ → List ℕ
row f w = map (λ i. answered f (w + i)) (range_with_len 0 256)

-- The same without the cut of its ticks: what f gives for v, v + 1, .. v + 255, each of them cut at 2^40, where v is w,
-- or 100,000,000 if w is above that.
unfoldable pub uncut_row : (ℕ → ℕ) → ℕ → List ℕ
uncut_row f w = map (λ i. min (f (min w 100000000 + i)) (2 ^ 40)) (range_with_len 0 256)

-- An array that begins at tick w, or at 100,000,000 if w is above that: each place beyond tick 100,000,000 takes what
-- stands there.
unfoldable pub cut_places : ℕ → List ℕ → List ℕ
cut_places w xs = map (λ i. slice_index xs (min i (100000000 - min w 100000000))) (range_with_len 0 256)

-- The array moved on by one place: 0 stands at the first, and what stood at the last is gone.
abbrev pub moved_places : List ℕ → List ℕ
moved_places xs = 0 ∷ take 255 xs

-- The array moved on, if w is tick 0; else the array cut.
abbrev pub cut_next_places : ℕ → List ℕ → List ℕ
cut_next_places w xs = cond (nat_eq w 0) (moved_places xs) (cut_places w xs)

-- The closure asks the question about f.
abbrev pub Asks : {F : Type 0} → Shared F (ℕ × Unit {0}) ℕ → F → (ℕ → ℕ) → Type 0
Asks {F} g question f = (t r : ℕ) → t < 2 ^ 64 → g.post question (t, tt) r → r ≡ answered f t
