use Rattle.std.proofs.Common.{◌≡◌, ◌≤◌, ◌+◌, ◌*◌, ◌^◌, All, length}
use Rattle.apf_lending.specs.Claims.{IsClaim, max_limit}
use Rattle.apf_lending.specs.Breaks.{sum_of_fixed, sum_of_free}
use Rattle.apf_lending.proofs.factor.pieces_of.Given as goal

abbrev pub invariant-loop-claim : goal.invariant-loop-claim
invariant-loop-claim l = record {
  fixed : l.fixed + sum_of_fixed l.below l.from l.rest ≡ sum_of_fixed l.below l.from l.claims;
  free : l.free + sum_of_free l.below l.from l.rest ≡ sum_of_free l.below l.from l.claims;
  most_fixed : l.fixed + max_limit * length l.rest ≤ max_limit * length l.claims;
  most_free : l.free + 2 ^ 64 * length l.rest ≤ 2 ^ 64 * length l.claims;
  claims : All IsClaim l.rest;
}

abbrev pub decreases-loop-claim : goal.decreases-loop-claim
decreases-loop-claim l = length l.rest
