-- A level's share of the seats.
use Rattle.std.proofs.Common.{ℕ, zero, suc, ◌+◌, ◌*◌, ◌<◌, ◌≤◌, List, [], ◌∷◌, length, get_or, map, arith}
use Rattle.std.proofs.lemmas.Nat.{div_below}
use Rattle.apf_objects.specs.Levels.{level_view}
use Rattle.apf_objects.specs.declared.level.Level.{Level}
use Rattle.apf_matching.specs.Limits.{nominal_of, sum_of_shares}

product_up : (a b c : ℕ) → b ≤ c → a * b ≤ a * c
product_up zero b c h = omega arith
product_up (suc a) b c h = omega (arith, product_up a b c h)

-- no share is above the whole
pub not_above : (seats shares all : ℕ) → shares ≤ all → nominal_of seats shares all ≤ seats
not_above seats shares zero h = omega arith
not_above seats shares (suc n) h =
    let most = product_up seats shares (suc n) h in
    let below = div_below (seats * shares + n) (suc n) (suc seats) (omega arith) (omega (arith, most)) in
    omega (arith, below)

-- the shares of a level are part of all
pub is_part : (levels : List Level) (i : ℕ) (d : Level) → i < length levels → (get_or levels i d).settings.shares ≤ sum_of_shares (map level_view levels)
is_part [] i d h = absurd (omega arith)
is_part (level ∷ levels) zero d h = omega arith
is_part (level ∷ levels) (suc i) d h = omega (arith, is_part levels i d (omega arith))
