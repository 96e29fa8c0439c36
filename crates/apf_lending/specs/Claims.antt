-- What levels claim of the seats.
use Rattle.std.specs.Prelude.{ℕ, ◌+◌, ◌*◌, ◌≤◌, List, [], ◌∷◌, min, max}
use Rattle.apf_lending.specs.declared.claim.Claim.{Claim}

-- the most seats of a limit
abbrev pub max_limit : ℕ
max_limit = 281474976710655

-- what a level asked for at once, from its least limit to the nominal one
abbrev pub least_of_all : (min nominal high : ℕ) → ℕ
least_of_all least nominal high = max least (min nominal high)

-- what a level claims that has these limits
abbrev pub limited_claim : (min nominal max high smoothed : ℕ) → Claim
limited_claim least nominal most high smoothed = record {
  min = least;
  current = least_of_all least nominal high;
  max = most;
  target = max (1000 * least_of_all least nominal high) smoothed;
}

-- what an exempt level claims: what it asked for at once, and nothing else
abbrev pub exempt_claim : (min nominal high : ℕ) → Claim
exempt_claim least nominal high = record {
  min = least_of_all least nominal high;
  current = least_of_all least nominal high;
  max = least_of_all least nominal high;
  target = 0;
}

-- the limits of a claim are in order, and the greatest is that of a level
pub record IsClaim (claim : Claim) : Type 0 where
  pub lends : claim.min ≤ claim.current
  pub borrows : claim.current ≤ claim.max
  pub few : claim.max ≤ max_limit
  pub small : claim.target ≤ 18446744073709551615

-- the least limits of all
abbrev pub sum_of_min : List Claim → ℕ
sum_of_min [] = 0
sum_of_min (claim ∷ claims) = claim.min + sum_of_min claims

-- what all asked for at once, within their limits
abbrev pub sum_of_current : List Claim → ℕ
sum_of_current [] = 0
sum_of_current (claim ∷ claims) = claim.current + sum_of_current claims
