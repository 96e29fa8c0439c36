use Rattle.std.proofs.Common.{◌≡◌, map, take}
use Rattle.apf_lending.specs.Shares.{limit_by}
use Rattle.apf_lending.proofs.division.scaled.Given as goal

abbrev pub invariant-loop-claim : goal.invariant-loop-claim
invariant-loop-claim l = l.limits.items ≡ map (limit_by l.factor) (take l.claim-index l.claims)
