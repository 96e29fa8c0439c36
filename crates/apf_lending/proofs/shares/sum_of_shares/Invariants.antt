use Rattle.std.proofs.Common.{◌≡◌, ◌≤◌, ◌+◌, ◌*◌, ◌^◌, All, length}
use Rattle.apf_lending.specs.Claims.{IsClaim}
use Rattle.apf_lending.specs.Shares as spec
use Rattle.apf_lending.proofs.shares.sum_of_shares.Given as goal

abbrev pub invariant-loop-claim : goal.invariant-loop-claim
invariant-loop-claim l = record {
  value : l.sum + spec.sum_of_shares l.factor l.rest ≡ spec.sum_of_shares l.factor l.claims;
  most : l.sum + 2 ^ 112 * length l.rest ≤ 2 ^ 112 * length l.claims;
  claims : All IsClaim l.rest;
}

abbrev pub decreases-loop-claim : goal.decreases-loop-claim
decreases-loop-claim l = length l.rest
