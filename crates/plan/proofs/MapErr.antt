-- What `map_err` leaves as it was.
use Rattle.std.proofs.Common.{◌≡◌, Ok, Err, Result, refl, ap}
use Rattle.std.specs.Result.{MatchResult}

-- A value after `map_err` was that value before.
pub ok_kept : {A E : Type 0} (F : Type 0) (r : Result A E) (x : A) → MatchResult r (λ y. ◌≡◌ {A = Result A F} (Ok x) (Ok y)) (λ _. ⊥) → r ≡ Ok x
ok_kept {A} {E} F (Ok y) x e = let z : y ≡ x = cc in ap {B = Result A E} Ok z
ok_kept F (Err f) x e = absurd e

-- A fault after `map_err` tells one before it.
pub err_told : {A E F : Type 0} (r : Result A E) (f : E → F) (q : F) → MatchResult r (λ y. ◌≡◌ {A = Result A F} (Err q) (Ok y)) (λ e. q ≡ f e) → (e : E) × (r ≡ Err e) × (q ≡ f e)
err_told (Ok y) f q e = cc
err_told (Err e) f q p = (e, refl, p)
