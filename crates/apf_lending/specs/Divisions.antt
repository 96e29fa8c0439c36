-- How seats are divided among levels.
use Rattle.std.specs.Prelude.{ℕ, ◌+◌, ◌*◌, ◌-◌, ◌≡◌, ◌≤◌, ◌<◌, List, map}
use Rattle.std.specs.List.{AllZip}
use Rattle.apf_lending.specs.declared.claim.Claim.{Claim}
use Rattle.apf_lending.specs.declared.fraction.Fraction.{Fraction}
use Rattle.apf_lending.specs.Claims.{sum_of_min, sum_of_current}
use Rattle.apf_lending.specs.Shares.{sum_of_reach, IsFactor, limit_by, rounded}

-- the limit of a level that has this part of what it asked for above its least limit
abbrev pub limit_of_part : (over under : ℕ) → Claim → ℕ
limit_of_part over under claim = claim.min + rounded ((claim.current - claim.min) * over) under

-- the limits of the levels, in the order of the claims
pub data IsDivision (seats : ℕ) (claims : List Claim) (limits : List ℕ) : Type 0 where
  -- there is not even enough for the least limits, or just that: each has its own
  least : seats ≤ sum_of_min claims → limits ≡ map (λ claim. claim.min) claims → IsDivision seats claims limits
  -- there is not enough for what all asked for, or just that: each has the same part of what it asked for above its least limit
  part : sum_of_min claims < seats → seats ≤ sum_of_current claims
      → limits ≡ map (limit_of_part (seats - sum_of_min claims) (sum_of_current claims - sum_of_min claims)) claims → IsDivision seats claims limits
  -- there are more: each has one number times its target, within its limits, so that all are given out
  scaled : (f : Fraction) → sum_of_current claims < seats → seats ≤ sum_of_reach claims → IsFactor seats claims f
      → limits ≡ map (limit_by f) claims → IsDivision seats claims limits
  -- the limits forbid that all are given out: each has its greatest limit
  most : sum_of_current claims < seats → sum_of_reach claims < seats → limits ≡ map (λ claim. claim.max) claims → IsDivision seats claims limits

-- each limit is at least the level's least one, and at most its greatest
abbrev pub AreWithin : List Claim → List ℕ → Type 0
AreWithin claims limits = AllZip (λ claim limit. (claim.min ≤ limit) × (limit ≤ claim.max)) claims limits
