-- Between which limits a level is lent seats.
use Rattle.std.specs.Prelude.{ℕ, ◌≤◌}
use Rattle.apf_lending.specs.Claims.{exempt_claim, limited_claim, max_limit}
use Rattle.apf_lending.specs.declared.claim.Claim.{Claim}
use Rattle.apf_lender.specs.declared.bounds.Bounds.{Bounds}
use Rattle.apf_lender.specs.declared.bounds.Bounds.TheVariants.{Exempt, Limited}

-- each limit is at most the next
abbrev pub AreBounds : Bounds → Type 0
AreBounds (Limited least nominal most) = (least ≤ nominal) × (nominal ≤ most) × (most ≤ max_limit)
AreBounds (Exempt least nominal) = (least ≤ nominal) × (nominal ≤ max_limit)

-- what a level claims, by the most seats that its requests asked for at once, and what they asked for lately
abbrev pub claim_of : Bounds → (high smoothed : ℕ) → Claim
claim_of (Limited least nominal most) high smoothed = limited_claim least nominal most high smoothed
claim_of (Exempt least nominal) high smoothed = exempt_claim least nominal high
