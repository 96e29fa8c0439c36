-- Where what levels have by one number ceases to be linear in it: where a level comes above what it asked for at once, and where it
-- comes to its greatest limit.
use Rattle.std.specs.Prelude.{ℕ, zero, suc, ◌+◌, ◌*◌, ◌≡◌, ◌≤◌, ◌<◌, ◌⊎◌, nat_le, List, [], ◌∷◌, ◌++◌, All, Contains, if◌then◌else◌}
use Rattle.apf_lending.specs.declared.claim.Claim.{Claim}
use Rattle.apf_lending.specs.declared.fraction.Fraction.{Fraction}
use Rattle.apf_lending.specs.Claims.{max_limit}
use Rattle.apf_lending.specs.Shares.{sum_of_shares}

-- a fraction is less than another, and at most another
abbrev pub IsLess : Fraction → Fraction → Type 0
IsLess a b = a.over * b.under < b.over * a.under

abbrev pub IsUpTo : Fraction → Fraction → Type 0
IsUpTo a b = a.over * b.under ≤ b.over * a.under

-- a fraction of a limit and a target
pub record IsSmall (f : Fraction) : Type 0 where
  pub some : 1 ≤ f.under
  pub under : f.under ≤ 18446744073709551615
  pub over : f.over ≤ max_limit

-- with this number all have at least these seats
abbrev pub Reaches : ℕ → List Claim → Fraction → Type 0
Reaches seats claims f = seats * f.under ≤ sum_of_shares f claims

-- the numbers at which a level ceases to be linear
abbrev pub breaks_by : (target current max : ℕ) → List Fraction
breaks_by zero current most = []
breaks_by (suc n) current most = record { over = current; under = suc n } ∷ record { over = most; under = suc n } ∷ []

-- those of all levels
abbrev pub breaks_of : List Claim → List Fraction
breaks_of [] = []
breaks_of (claim ∷ claims) = breaks_by claim.target claim.current claim.max ++ breaks_of claims

-- it is 0, or one of these
abbrev pub IsOneOf : Fraction → List Fraction → Type 0
IsOneOf f breaks = (f ≡ record { over = 0; under = 1 }) ⊎ Contains breaks f

-- no break lies between the two
abbrev pub AreApart : (below from : Fraction) → List Fraction → Type 0
AreApart below from breaks = All (λ b. IsLess b from → IsUpTo b below) breaks

-- between the two a level has a fixed limit, or so many times its target
abbrev pub fixed_by : (below from : Fraction) → Claim → ℕ
fixed_by below from claim =
    if nat_le (from.over * claim.target) (claim.current * from.under) then claim.current
    else if nat_le (claim.max * below.under) (below.over * claim.target) then claim.max else 0

abbrev pub free_by : (below from : Fraction) → Claim → ℕ
free_by below from claim =
    if nat_le (from.over * claim.target) (claim.current * from.under) then 0
    else if nat_le (claim.max * below.under) (below.over * claim.target) then 0 else claim.target

-- the fixed limits of all, and the targets of the others
abbrev pub sum_of_fixed : (below from : Fraction) → List Claim → ℕ
sum_of_fixed below from [] = 0
sum_of_fixed below from (claim ∷ claims) = fixed_by below from claim + sum_of_fixed below from claims

abbrev pub sum_of_free : (below from : Fraction) → List Claim → ℕ
sum_of_free below from [] = 0
sum_of_free below from (claim ∷ claims) = free_by below from claim + sum_of_free below from claims
