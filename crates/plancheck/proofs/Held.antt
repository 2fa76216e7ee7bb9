-- What a source held is what was received of it, and then what it still holds.
use Rattle.std.proofs.Common.{◌≡◌, ℕ, ◌≤◌, List, [], ◌∷◌, ◌++◌, length, take, sym, refl, ap, ◌∙◌, subst, append_assoc, append-nil, arith, take_all, take_at}
use Rattle.plancheck.specs.Source.{Tells, First}

pub none_there : (xs : List ℕ) → length xs ≡ 0 → xs ≡ []
none_there [] e = refl
none_there (x ∷ xs) e = absurd (omega (arith, e))

module _ {S : Type 0} (gave : S → List ℕ → S → Type 0) where
  -- The source that stood as s stands as t after the bytes xs.
  abbrev pub SoFar : S → List ℕ → S → Type 0
  SoFar s xs t = (ahead : S → List ℕ) → Tells gave ahead → ahead s ≡ xs ++ ahead t

  -- One piece more.
  pub one_more : (s t u : S) (xs ys zs : List ℕ) → SoFar s xs t → gave t ys u → zs ≡ xs ++ ys → SoFar s zs u
  one_more s t u xs ys zs h g e ahead tells =
      h ahead tells ∙ ap (λ l. xs ++ l) (tells.front t u ys g) ∙ sym (append_assoc xs ys (ahead u)) ∙ ap (λ l. l ++ ahead u) (sym e)

  -- Where 4,096 bytes are there, they are the first.
  pub full : (s t : S) (xs : List ℕ) → SoFar s xs t → length xs ≡ 4096 → First gave s xs
  full s t xs h e ahead tells = sym (ap (take 4096) (h ahead tells) ∙ take_at xs (ahead t) 4096 e)

  -- Where the last piece has no bytes, all are there.
  pub at_end : (s t u : S) (xs ys zs : List ℕ) → SoFar s xs t → gave t ys u → length ys ≡ 0 → zs ≡ xs ++ ys → length zs ≤ 4096 → First gave s zs
  at_end s t u xs ys zs h g z e m ahead tells =
      let nothing = none_there ys z in
      let same : zs ≡ xs = e ∙ ap (λ l. xs ++ l) nothing ∙ append-nil xs in
      let over = tells.ended t u (subst (λ l. gave t l u) nothing g) in
      sym (ap (take 4096) (h ahead tells ∙ ap (λ l. xs ++ l) over ∙ append-nil xs ∙ sym same) ∙ take_all 4096 zs m)
