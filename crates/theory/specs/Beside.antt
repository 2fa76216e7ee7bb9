-- One load beside another, and no load at all.
use Rattle.std.specs.Prelude.{◌≡◌, ◌+◌, max, false, ◌||◌, List, [], ◌∷◌}
use Rattle.theory.specs.Jobs.{Job}
use Rattle.theory.specs.Meaning.{Amounts, Meaning}

-- `zs` dealt out, order kept, into `xs` and `ys`.
pub data Deals : List Job → List Job → List Job → Type 0 where
  done : Deals [] [] []
  left : {z : Job} {zs xs ys : List Job} → Deals zs xs ys → Deals (z ∷ zs) (z ∷ xs) ys
  right : {z : Job} {zs xs ys : List Job} → Deals zs xs ys → Deals (z ∷ zs) xs (z ∷ ys)

-- Side by side, due and ready add up, held is the larger, and the marks are those of either.
unfoldable pub both : Amounts → Amounts → Amounts
both a b = record {
  due = λ t. a.due t + b.due t;
  held = λ t. max (a.held t) (b.held t);
  ready = λ s. a.ready s + b.ready s;
  mark = λ t. a.mark t || b.mark t;
}

-- A list is permitted if it can be dealt out into one permitted list for each.
unfoldable pub beside : Meaning → Meaning → Meaning
beside a b = record {
  amounts = both a.amounts b.amounts;
  Permits = λ zs. (xs : List Job) × (ys : List Job) × Deals zs xs ys × a.Permits xs × b.Permits ys;
}

-- No work at all: only the empty list is permitted.
unfoldable pub nothing : Meaning
nothing = record {
  amounts = record { due = λ t. 0; held = λ t. 0; ready = λ s. 0; mark = λ t. false };
  Permits = λ zs. zs ≡ [];
}
