-- What a fixed vector holds, and one more value.
use Rattle.std.specs.Prelude.{ℕ, ◌≤◌, cond, List, [], ◌∷◌, ◌++◌, length, take, Ok, Err, Result, nat_lt}
use Rattle.std.proofs.Common.{arith, length-take}
use Rattle.loads.specs.declared.fixed_vec.FixedVec.{FixedVec}

-- The values, in order: those of the first `count` places.
abbrev pub items_of : {T : Type 0} {N : ℕ} → FixedVec T N → List T
items_of v = take v.count v.items

-- They are at most N.
pub items_few : {T : Type 0} {N : ℕ} (v : FixedVec T N) → length (items_of v) ≤ N
items_few v = omega (arith, length-take v.count v.items, v.room)

-- One more value at the end of `xs`: the answer, and the values then. Where there are `most` already, the answer is
-- that error, and nothing changes.
abbrev pub added : {T E : Type 0} → ℕ → E → List T → T → Result (Unit {0}) E × List T
added most full xs x = cond (nat_lt (length xs) most) (Ok tt, xs ++ (x ∷ [])) (Err full, xs)
