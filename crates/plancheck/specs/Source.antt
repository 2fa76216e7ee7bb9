-- What a source of bytes delivers, and what it holds.
use Rattle.std.specs.Prelude.{◌≡◌, ℕ, ◌<◌, ◌≤◌, List, [], ◌++◌, length, take, Option, IfSome, IfOk, Result}
use Rattle.std.specs.Io.KnownBytes.{Consumes, IsAtEnd}

-- `gave s xs t` says of a kind of sources that one which stands as s may deliver the bytes xs and then stand as t.

-- A delivery that did not fail put n bytes at the front of a buffer; and if the buffer had room, these are what the
-- source gave as it went from s to t.
abbrev pub Delivered : {S E : Type 0} → (S → List ℕ → S → Type 0) → S → Result ℕ E → List ℕ → S → Type 0
Delivered gave s r buf t = IfOk r (λ n. (n ≤ length buf) × (0 < length buf → gave s (take n buf) t))

-- `ahead` tells what a source still holds: what is given is the front of it, and nothing is given only where nothing
-- is left.
pub record Tells {S : Type 0} (gave : S → List ℕ → S → Type 0) (ahead : S → List ℕ) : Type 0 where
  pub front : (s t : S) (xs : List ℕ) → gave s xs t → ahead s ≡ xs ++ ahead t
  pub ended : (s t : S) → gave s [] t → ahead s ≡ []

-- xs are the first 4,096 bytes that the source s holds, or all if there are fewer.
abbrev pub First : {S : Type 0} → (S → List ℕ → S → Type 0) → S → List ℕ → Type 0
First {S} gave s xs = (ahead : S → List ℕ) → Tells gave ahead → xs ≡ take 4096 (ahead s)

-- `ahead` tells what a source still holds, where it is known what it holds: known bytes stay known, what is given is the
-- front of them, and nothing is given only where none are left.
pub record TellsKnown {S : Type 0} (gave : S → List ℕ → S → Type 0) (ahead : S → Option (List ℕ)) : Type 0 where
  pub front : (s t : S) (xs : List ℕ) → gave s xs t → Consumes (ahead s) (ahead t) xs
  pub ended : (s t : S) → gave s [] t → IsAtEnd (ahead s)

-- Where it is known what the source s holds, xs are the first 4,096 bytes of that, or all if there are fewer.
abbrev pub FirstKnown : {S : Type 0} → (S → List ℕ → S → Type 0) → S → List ℕ → Type 0
FirstKnown {S} gave s xs = (ahead : S → Option (List ℕ)) → TellsKnown gave ahead → IfSome (ahead s) (λ ys. xs ≡ take 4096 ys)

-- What a reader gave as the bytes known to be left in it went from `old` to `new`: known bytes stay known and lose xs at
-- their front, and xs are none only where none are left.
pub record GaveKnown (old : Option (List ℕ)) (xs : List ℕ) (new : Option (List ℕ)) : Type 0 where
  pub front : Consumes old new xs
  pub ended : xs ≡ [] → IsAtEnd new

-- What a source in memory gave, which the tests read from: of the bytes `all` the first are xs, and `rest` is left; and
-- xs are none only where `all` are none.
pub record Cut (all xs rest : List ℕ) : Type 0 where
  pub front : all ≡ xs ++ rest
  pub ended : xs ≡ [] → all ≡ []
