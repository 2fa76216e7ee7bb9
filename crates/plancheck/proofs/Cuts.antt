-- Bytes in memory, from which the first n are taken.
use Rattle.std.proofs.Common.{◌≡◌, ℕ, ◌-◌, ◌<◌, ◌≤◌, List, ◌++◌, length, take, drop, sym, refl, ap, ◌∙◌, arith, length-append, length-drop, take-append-drop, length-take-le, take_all, take_at}
use Rattle.plancheck.specs.Source.{Cut, Tells}
use Rattle.plancheck.proofs.Held.{none_there}

cut_of : (n : ℕ) (all xs rest : List ℕ) → n ≤ length all → (n ≡ 0 → length all ≡ 0) → xs ≡ take n all → rest ≡ drop n all → Cut all xs rest
cut_of n all xs rest m z e f =
    record {
      front = sym (ap (λ l. l ++ rest) e ∙ ap (λ l. take n all ++ l) f ∙ take-append-drop n all);
      ended = λ nothing. none_there all (z (omega (arith, ap length nothing, ap length e, length-take-le n all m)));
    }

-- The first n bytes of `all`, copied to the front of a buffer.
pub cut_at : (n : ℕ) (all copied old : List ℕ) → n ≤ length all → (0 < length (copied ++ old) → n ≡ 0 → length all ≡ 0) → copied ≡ take n all → (n ≤ length (copied ++ old)) × (0 < length (copied ++ old) → Cut all (take n (copied ++ old)) (take (length all - n) (drop n all)))
cut_at n all copied old m z e =
    let l : length copied ≡ n = ap length e ∙ length-take-le n all m in
    (omega (arith, length-append copied old), λ some. cut_of n all (take n (copied ++ old)) (take (length all - n) (drop n all)) m (z some) (take_at copied old n l ∙ e) (take_all (length all - n) (drop n all) (omega (arith, length-drop n all))))

-- What is left tells what such a source holds.
pub left_tells : {S : Type 0} (left : S → List ℕ) → Tells (λ s xs t. Cut (left s) xs (left t)) left
left_tells left = record { front = λ s t xs g. g.front; ended = λ s t g. g.ended refl }
