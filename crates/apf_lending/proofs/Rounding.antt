-- Quotients, halves rounded up.
use Rattle.std.proofs.Common.{◌≡◌, ℕ, suc, ◌+◌, ◌*◌, ◌/◌, ◌≤◌, arith}
use Rattle.std.proofs.lemmas.Nat.{le-div, div_below}
use Rattle.std.proofs.Math.Nat.{mul-le-mul_right, le_of_mul-le-mul_right, mul_right_comm, mul-div-le, div-mul-le_self, lt-div-mul-add, mul_comm, mul_left_comm, mul_assoc, add-mul, suc-mul}
use Rattle.apf_lending.specs.Shares.{rounded}

double : (a m : ℕ) → a * (2 * m) ≡ 2 * (a * m)
double a m = omega (arith, mul_left_comm a 2 m)

-- from a limit on, and up to a limit
pub rounded_from : (x m l : ℕ) → 1 ≤ m → l * m ≤ x → l ≤ rounded x m
unfolding rounded
rounded_from x m l some low = le-div l (2 * x + m) (2 * m) (omega arith) (omega (arith, double l m, low))

pub rounded_to : (x m u : ℕ) → 1 ≤ m → x ≤ u * m → rounded x m ≤ u
unfolding rounded
rounded_to x m u some high =
    let below = div_below (2 * x + m) (2 * m) (suc u) (omega arith) (omega (arith, double u m, suc-mul u (2 * m), high)) in
    omega (arith, below)

-- a half is the most that is lost or won
pub half_high : (x m : ℕ) → 1 ≤ m → 2 * (rounded x m * m) ≤ 2 * x + m
unfolding rounded
half_high x m some =
    let whole = mul-div-le (2 * x + m) (2 * m) in
    omega (arith, whole, mul_comm (2 * m) ((2 * x + m) / (2 * m)), double ((2 * x + m) / (2 * m)) m)

pub half_low : (x m : ℕ) → 1 ≤ m → 2 * x ≤ 2 * (rounded x m * m) + m
unfolding rounded
half_low x m some =
    let above = lt-div-mul-add {a = 2 * x + m} {b = 2 * m} (omega arith) in
    omega (arith, above, double ((2 * x + m) / (2 * m)) m)

-- the greater quotient is not rounded to less
crossed : (q x m x' m' : ℕ) → 1 ≤ m' → x' * m ≤ x * m' → q * (2 * m') ≤ 2 * x' + m' → q * (2 * m) ≤ 2 * x + m
crossed q x m x' m' some less at =
    let up = mul-le-mul_right m at in
    let left : q * (2 * m) * m' ≡ q * (2 * m') * m = omega (arith, double q m, double q m', mul_assoc 2 (q * m) m', mul_assoc 2 (q * m') m, mul_right_comm q m m') in
    let right : (2 * x' + m') * m ≡ 2 * (x' * m) + m' * m = omega (arith, add-mul (2 * x') m' m, mul_assoc 2 x' m) in
    let top : (2 * x + m) * m' ≡ 2 * (x * m') + m * m' = omega (arith, add-mul (2 * x) m m', mul_assoc 2 x m') in
    let all : q * (2 * m) * m' ≤ (2 * x + m) * m' = omega (arith, up, left, right, top, less, mul_comm m m') in
    le_of_mul-le-mul_right all (omega arith)

pub rounded_up : (x m x' m' : ℕ) → 1 ≤ m → 1 ≤ m' → x' * m ≤ x * m' → rounded x' m' ≤ rounded x m
unfolding rounded
rounded_up x m x' m' some some' less =
    let at : (2 * x' + m') / (2 * m') * (2 * m') ≤ 2 * x' + m' = div-mul-le_self (2 * x' + m') (2 * m') in
    le-div ((2 * x' + m') / (2 * m')) (2 * x + m) (2 * m) (omega arith) (crossed ((2 * x' + m') / (2 * m')) x m x' m' some' less at)

-- equal quotients are rounded to the same
pub rounded_same : (x m x' m' : ℕ) → 1 ≤ m → 1 ≤ m' → x' * m ≡ x * m' → rounded x' m' ≡ rounded x m
rounded_same x m x' m' some some' same =
    let up = rounded_up x m x' m' some some' (omega (arith, same)) in
    let down = rounded_up x' m' x m some' some (omega (arith, same)) in
    omega (arith, up, down)
