-- Inequalities between quotients, rounded down or up.
use Rattle.std.specs.Prelude.{◌≡◌, ℕ, ◌+◌, ◌-◌, ◌*◌, ◌/◌, ◌%◌, ◌<◌, ◌≤◌, ◌≢◌}
use Rattle.std.proofs.Common.{sym, ap, ◌∙◌, arith, add-mul, div-mul-le_self, div-add-mod'}
use Rattle.std.proofs.Math.Nat.{lt-div-mul-add}
use Rattle.std.proofs.lemmas.Nat.{div_below, le-div, mod_below, div-mul-add}
use Rattle.loads.specs.Tasks.{ceil}

pub div_mono : (n a b : ℕ) → 0 < n → a ≤ b → a / n ≤ b / n
div_mono n a b p h = le-div (a / n) b n p (omega (arith, div-mul-le_self a n))

pub ceil_mono : (n a b : ℕ) → 0 < n → a ≤ b → ceil a n ≤ ceil b n
ceil_mono n a b p h = div_mono n (a + (n - 1)) (b + (n - 1)) p (omega arith)

pub ceil_positive : (n a : ℕ) → 0 < n → 0 < a → 1 ≤ ceil a n
ceil_positive n a p h = le-div 1 (a + (n - 1)) n p (omega arith)

-- one more is no multiple: the quotient stays
pub div_still : (n a : ℕ) → 0 < n → ((a + 1) % n ≢ 0) → (a + 1) / n ≡ a / n
div_still n a p h =
    let m = mod_below (a + 1) n p in
    let q = div-add-mod' (a + 1) n in
    let e : a ≡ (a + 1) / n * n + ((a + 1) % n - 1) = omega arith in
    sym (ap (λ x. x / n) e ∙ div-mul-add ((a + 1) / n) n ((a + 1) % n - 1) (omega arith))

-- of a + b, a rounded up and b rounded down
pub div_split : (n a b : ℕ) → 0 < n → (a + b) / n ≤ ceil a n + b / n
div_split n a b p =
    let c = lt-div-mul-add {a = a + (n - 1)} {b = n} p in
    let d = lt-div-mul-add {a = b} {b = n} p in
    let e = add-mul (ceil a n + b / n) 1 n in
    let f = add-mul (ceil a n) (b / n) n in
    let g : (a + b) / n < ceil a n + b / n + 1 = div_below (a + b) n (ceil a n + b / n + 1) p (omega arith) in
    omega arith
