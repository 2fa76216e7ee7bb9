-- What a source held, where that is known, was received of it, and then comes what it still holds.
use Rattle.std.proofs.Common.{◌≡◌, ℕ, ◌≤◌, List, ◌++◌, length, take, Some, None, Option, IfSome, sym, ap, ◌∙◌, subst, append-nil, take_all, take_at}
use Rattle.std.specs.Io.KnownBytes.{Consumes, IsAtEnd}
use Rattle.std.proofs.KnownBytes.{Consumes-trans}
use Rattle.plancheck.specs.Source.{TellsKnown, FirstKnown}
use Rattle.plancheck.proofs.Held.{none_there}

-- 4,096 bytes that are the front of the known ones are the first of them.
first_full : (a b : Option (List ℕ)) (xs : List ℕ) → Consumes a b xs → length xs ≡ 4096 → IfSome a (λ ys. xs ≡ take 4096 ys)
first_full None b xs h e = tt
first_full (Some all) None xs h e = absurd h
first_full (Some all) (Some rest) xs h e = sym (ap (take 4096) h ∙ take_at xs rest 4096 e)

-- Where none are left behind them, they are all.
first_end : (a b : Option (List ℕ)) (xs : List ℕ) → Consumes a b xs → IsAtEnd b → length xs ≤ 4096 → IfSome a (λ ys. xs ≡ take 4096 ys)
first_end None b xs h e m = tt
first_end (Some all) None xs h e m = absurd h
first_end (Some all) (Some rest) xs h e m = sym (ap (take 4096) (h ∙ ap (λ l. xs ++ l) e ∙ append-nil xs) ∙ take_all 4096 xs m)

module _ {S : Type 0} (gave : S → List ℕ → S → Type 0) where
  -- The source that stood as s stands as t after the bytes xs, where it is known what it held.
  abbrev pub KnownSoFar : S → List ℕ → S → Type 0
  KnownSoFar s xs t = (ahead : S → Option (List ℕ)) → TellsKnown gave ahead → Consumes (ahead s) (ahead t) xs

  -- One piece more.
  pub known_more : (s t u : S) (xs ys zs : List ℕ) → KnownSoFar s xs t → gave t ys u → zs ≡ xs ++ ys → KnownSoFar s zs u
  known_more s t u xs ys zs h g e ahead tells =
      subst (Consumes (ahead s) (ahead u)) (sym e) (Consumes-trans (ahead s) (ahead t) (ahead u) xs ys (h ahead tells) (tells.front t u ys g))

  -- Where 4,096 bytes are there, they are the first.
  pub known_full : (s t : S) (xs : List ℕ) → KnownSoFar s xs t → length xs ≡ 4096 → FirstKnown gave s xs
  known_full s t xs h e ahead tells = first_full (ahead s) (ahead t) xs (h ahead tells) e

  -- Where the last piece has no bytes, all are there.
  pub known_end : (s t u : S) (xs ys zs : List ℕ) → KnownSoFar s xs t → gave t ys u → length ys ≡ 0 → zs ≡ xs ++ ys → length zs ≤ 4096 → FirstKnown gave s zs
  known_end s t u xs ys zs h g z e m ahead tells =
      let nothing = none_there ys z in
      let same : zs ≡ xs = e ∙ ap (λ l. xs ++ l) nothing ∙ append-nil xs in
      let over = tells.ended t u (subst (λ l. gave t l u) nothing g) in
      first_end (ahead s) (ahead t) zs (subst (Consumes (ahead s) (ahead t)) (sym same) (h ahead tells)) over m
