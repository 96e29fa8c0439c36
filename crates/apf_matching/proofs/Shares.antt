-- The parts of the seats.
use Rattle.std.proofs.Common.{◌≡◌, ℕ, zero, suc, ◌+◌, ◌*◌, ◌-◌, ◌/◌, ◌<◌, ◌≤◌, List, [], ◌∷◌, length, arith}
use Rattle.std.proofs.lemmas.Nat.{div_below, mod_below}
use Rattle.std.proofs.Math.Nat.{div-add-mod, div-mul-le_self, mul_comm, mul-suc, suc-mul, mul-zero, mul-add, add-mul, le_of_mul-le-mul_right, lt_of_mul-lt-mul_right}
use Rattle.apf_matching.specs.Limits.{nominal_of, sum_of_shares, sum_of_parts, sum_of_nominal}
use Rattle.apf_objects.specs.Levels.{LevelSaid}

product_up : (a b c : ℕ) → b ≤ c → a * b ≤ a * c
product_up zero b c h = omega arith
product_up (suc a) b c h = omega (arith, product_up a b c h)

-- a product of a number of seats and a number of shares
pub small_product : (seats shares : ℕ) → seats ≤ 1000000 → shares ≤ 4294967295 → seats * shares ≤ 4294967295000000
small_product seats shares few small = omega (arith, product_up seats shares 4294967295 small)

-- no part is above the whole
pub not_above : (seats shares all : ℕ) → 0 < all → shares ≤ all → (seats * shares + (all - 1)) / all ≤ seats
not_above seats shares all some h =
    let most = product_up seats shares all h in
    let below = div_below (seats * shares + (all - 1)) all (suc seats) some (omega (arith, most)) in
    omega (arith, below)

-- ---- the sum of all parts

-- what is divided and rounded up is at least the whole, and at most a divisor less one above it
div_up_from : (a n : ℕ) → a ≤ (a + n) / suc n * suc n
div_up_from a n =
    let whole = div-add-mod (a + n) (suc n) in
    let rest = mod_below (a + n) (suc n) (omega arith) in
    rw (mul_comm ((a + n) / suc n) (suc n)) (omega (arith, whole, rest))

div_up_to : (a n : ℕ) → (a + n) / suc n * suc n ≤ a + n
div_up_to a n = div-mul-le_self (a + n) (suc n)

more_from : (s x y p q d : ℕ) → s * x ≤ p * d → s * y ≤ q * d → s * (x + y) ≤ (p + q) * d
more_from s x y p q d one others = rw (mul-add s x y, add-mul p q d) (omega (arith, one, others))

more_to : (s x y p q d n k : ℕ) → p * d ≤ s * x + n → q * d ≤ s * y + k * n → (p + q) * d ≤ s * (x + y) + suc k * n
more_to s x y p q d n k one others = rw (mul-add s x y, add-mul p q d, suc-mul k n) (omega (arith, one, others))

sum_from : (seats n : ℕ) (levels : List LevelSaid) → seats * sum_of_shares levels ≤ sum_of_parts seats (suc n) levels * suc n
sum_from seats n [] = rw (mul-zero seats) (omega arith)
sum_from seats n (level ∷ levels) =
    more_from seats level.settings.shares (sum_of_shares levels) (nominal_of seats level.settings.shares (suc n)) (sum_of_parts seats (suc n) levels) (suc n)
    (div_up_from (seats * level.settings.shares) n) (sum_from seats n levels)

sum_to : (seats n : ℕ) (levels : List LevelSaid) → sum_of_parts seats (suc n) levels * suc n ≤ seats * sum_of_shares levels + length levels * n
sum_to seats n [] = omega arith
sum_to seats n (level ∷ levels) =
    more_to seats level.settings.shares (sum_of_shares levels) (nominal_of seats level.settings.shares (suc n)) (sum_of_parts seats (suc n) levels) (suc n) n (length levels)
    (div_up_to (seats * level.settings.shares) n) (sum_to seats n levels)

some_level : (n : ℕ) (levels : List LevelSaid) → sum_of_shares levels ≡ suc n → 0 < length levels
some_level n [] e = absurd (omega (arith, e))
some_level n (level ∷ levels) e = omega arith

-- this many parts are from the seats on
bounds : (seats n k all : ℕ) → 0 < k → seats * suc n ≤ all * suc n → all * suc n ≤ seats * suc n + k * n → (seats ≤ all) × (all < seats + k)
bounds seats n k all some low high =
    let wide : (seats + k) * suc n ≡ seats * suc n + k * suc n = add-mul seats k (suc n) in
    let last : k * suc n ≡ k * n + k = mul-suc k n in
    (le_of_mul-le-mul_right low (omega arith), lt_of_mul-lt-mul_right (suc n) (omega (arith, wide, last, high, some)))

-- the nominal limits together, where there are shares: from the seats to below the seats and the number of levels
pub nominal_sum : (seats n : ℕ) (levels : List LevelSaid) → sum_of_shares levels ≡ suc n
    → (seats ≤ sum_of_nominal seats levels) × (sum_of_nominal seats levels < seats + length levels)
nominal_sum seats n levels whole =
    let low = sum_from seats n levels in
    let high = sum_to seats n levels in
    rw whole (bounds seats n (length levels) (sum_of_parts seats (suc n) levels) (some_level n levels whole) (rw whole at low) (rw whole at high))
