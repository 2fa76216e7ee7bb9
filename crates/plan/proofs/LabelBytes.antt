-- Counting the printable bytes at the front, and looking whether zeros follow, gives `good_label`.
use Rattle.std.proofs.Common.{◌≡◌, ℕ, ◌<◌, ◌+◌, Bool, true, false, cond, ◌&&◌, ◌==◌, List, [], ◌∷◌, drop, refl, ap, ◌∙◌, arith}
use Rattle.std.specs.List.{list_all, prefix_len}
use Rattle.plan.specs.Labels.{printable, zeros, padded_text, good_label}

-- Every byte is 0, as the code asks.
abbrev pub all_zero : List ℕ → Bool
all_zero = list_all (λ b. b == 0)

zeros_all : (bs : List ℕ) → zeros bs ≡ all_zero bs
zeros_all [] = refl
zeros_all (b ∷ bs) = ap (λ (r : Bool). b == 0 && r) (zeros_all bs)

one_more : (n b : ℕ) (bs : List ℕ) → drop n bs ≡ drop (1 + n) (b ∷ bs)
one_more n b bs = grind arith

-- Printable bytes and then zeros: behind the printable bytes in front stand only zeros.
padded : (bs : List ℕ) → padded_text bs ≡ all_zero (drop (prefix_len printable bs) bs)
padded [] = refl
padded (b ∷ bs) =
    elim (printable b) as (λ p. cond p (padded_text bs) (zeros (b ∷ bs)) ≡ all_zero (drop (cond p (1 + prefix_len printable bs) 0) (b ∷ bs))) [
      | true ↦ padded bs ∙ ap all_zero (one_more (prefix_len printable bs) b bs)
      | false ↦ zeros_all (b ∷ bs)
    ]

-- Of a label with a printable byte in front no more is asked.
begun : (bs : List ℕ) → 0 < prefix_len printable bs → good_label bs ≡ padded_text bs
begun [] h = absurd (omega arith)
begun (b ∷ bs) h =
    (elim (printable b) as (λ p. 0 < cond p (1 + prefix_len printable bs) 0 → (p && padded_text bs) ≡ cond p (padded_text bs) (zeros (b ∷ bs))) [
      | true ↦ λ q. refl
      | false ↦ λ q. absurd (omega arith)
    ]) h

pub good_is : (bs : List ℕ) → 0 < prefix_len printable bs → good_label bs ≡ all_zero (drop (prefix_len printable bs) bs)
good_is bs h = begun bs h ∙ padded bs
