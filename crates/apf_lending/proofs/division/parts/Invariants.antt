use Rattle.std.proofs.Common.{◌≡◌, map, take}
use Rattle.apf_lending.specs.Divisions.{limit_of_part}
use Rattle.apf_lending.proofs.division.parts.Given as goal

abbrev pub invariant-loop-claim : goal.invariant-loop-claim
invariant-loop-claim l = l.limits.items ≡ map (limit_of_part l.over l.under) (take l.claim-index l.claims)
