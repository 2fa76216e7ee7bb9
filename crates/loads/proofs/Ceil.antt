-- A quotient rounded up, as the library and as a task's amounts have it.
use Rattle.std.specs.Int.{div_ceil}
use Rattle.std.proofs.Common.{◌≡◌, ℕ, ◌+◌, ◌-◌, ◌<◌, ◌≤◌, arith, add-mul}
use Rattle.std.proofs.lemmas.Grind.{div_ceil_times}
use Rattle.std.proofs.lemmas.Nat.{le-div, div_below}
use Rattle.loads.specs.Tasks.{ceil}

pub ceil_is : (a b : ℕ) → 0 < b → div_ceil a b ≡ ceil a b
ceil_is a b p =
    let t = div_ceil_times a b p in
    let m = add-mul (div_ceil a b) 1 b in
    let low : div_ceil a b ≤ ceil a b = le-div (div_ceil a b) (a + (b - 1)) b p (omega arith) in
    let high : ceil a b < div_ceil a b + 1 = div_below (a + (b - 1)) b (div_ceil a b + 1) p (omega arith) in
    omega arith
