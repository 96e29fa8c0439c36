use Rattle.std.proofs.Common.{◌≡◌, map, take}
use Rattle.apf_lending.specs.declared.claim.Claim.{Claim}
use Rattle.apf_lending.proofs.division.most.Given as goal

abbrev pub invariant-loop-claim : goal.invariant-loop-claim
invariant-loop-claim l = l.limits.items ≡ map (λ (claim : Claim). claim.max) (take l.claim-index l.claims)
