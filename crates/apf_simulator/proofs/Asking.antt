-- The request of a line is in its ranges.
use Rattle.std.proofs.Common.{ℕ, ◌≤◌, Option, Some, None}
use Rattle.std.specs.Prelude.{IfSome}
use Rattle.apf_words.specs.Limits.{max_cost}

pub in_range : (cost : Option ℕ) → IfSome cost (λ c. (1 ≤ c) × (c ≤ max_cost)) → IfSome cost (λ c. 1 ≤ c)
in_range None is = is
in_range (Some c) is = is.0
