use Rattle.std.proofs.Common.{◌≡◌, ◌≤◌, ◌+◌, ◌*◌, All, length}
use Rattle.apf_lending.specs.Claims.{IsClaim, max_limit}
use Rattle.apf_lending.specs.Shares.{sum_of_reach}
use Rattle.apf_lending.proofs.shares.sum_of_reach.Given as goal

abbrev pub invariant-loop-claim : goal.invariant-loop-claim
invariant-loop-claim l = record {
  value : l.sum + sum_of_reach l.rest ≡ sum_of_reach l.claims;
  most : l.sum + max_limit * length l.rest ≤ max_limit * length l.claims;
  claims : All IsClaim l.rest;
}

abbrev pub decreases-loop-claim : goal.decreases-loop-claim
decreases-loop-claim l = length l.rest
