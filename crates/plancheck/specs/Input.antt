-- What an input has received.
use Rattle.std.specs.Prelude.{◌≡◌, ℕ, List, ◌++◌, length, take, Result, MatchResult}
use Rattle.plancheck.specs.declared.input.Input.{Input}

-- The bytes received so far, in order.
abbrev pub received : Input → List ℕ
received i = take i.count i.bytes

-- n bytes more, which the source gave as it went from s to t, stand after those received before.
pub record Added {S : Type 0} (gave : S → List ℕ → S → Type 0) (s : S) (i : Input) (n : ℕ) (t : S) (j : Input) : Type 0 where
  pub piece : List ℕ
  pub size : length piece ≡ n
  pub given : gave s piece t
  pub after : received j ≡ received i ++ piece

-- What a pull does: it adds what it says, and where the source failed nothing.
abbrev pub Pulled : {S E : Type 0} → (S → List ℕ → S → Type 0) → S → Input → Result ℕ E → S → Input → Type 0
Pulled gave s i r t j = MatchResult r (λ n. Added gave s i n t j) (λ _. received j ≡ received i)
