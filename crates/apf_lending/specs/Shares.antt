-- What levels have where each has one number times its target, within its limits. The number is a fraction, and what a level has
-- is told times the denominator, as a whole number.
use Rattle.std.specs.Prelude.{ℕ, zero, suc, ◌+◌, ◌*◌, ◌/◌, ◌≡◌, ◌≤◌, List, [], ◌∷◌, min, max}
use Rattle.apf_lending.specs.declared.claim.Claim.{Claim}
use Rattle.apf_lending.specs.declared.fraction.Fraction.{Fraction}

-- what a level has, times the denominator
unfoldable pub share_of : Fraction → Claim → ℕ
share_of f claim = min (claim.max * f.under) (max (claim.current * f.under) (f.over * claim.target))

-- what all have, times the denominator
abbrev pub sum_of_shares : Fraction → List Claim → ℕ
sum_of_shares f [] = 0
sum_of_shares f (claim ∷ claims) = share_of f claim + sum_of_shares f claims

-- what a level has where the number is as great as can be
abbrev pub reach_by : (target current max : ℕ) → ℕ
reach_by zero current most = current
reach_by (suc n) current most = most

-- what all have where the number is as great as can be
abbrev pub sum_of_reach : List Claim → ℕ
sum_of_reach [] = 0
sum_of_reach (claim ∷ claims) = reach_by claim.target claim.current claim.max + sum_of_reach claims

-- the number with which all have these seats together
pub record IsFactor (seats : ℕ) (claims : List Claim) (f : Fraction) : Type 0 where
  pub some : 1 ≤ f.under
  pub exact : sum_of_shares f claims ≡ seats * f.under

-- a quotient, halves rounded up
unfoldable pub rounded : (over under : ℕ) → ℕ
rounded over under = (2 * over + under) / (2 * under)

-- the limit of a level: what it has, halves rounded up
abbrev pub limit_by : Fraction → Claim → ℕ
limit_by f claim = rounded (share_of f claim) f.under
