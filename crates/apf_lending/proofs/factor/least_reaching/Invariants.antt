use Rattle.std.proofs.Common.{All, take}
use Rattle.apf_lending.specs.Breaks.{IsSmall, IsUpTo, Reaches}
use Rattle.apf_lending.proofs.factor.least_reaching.Given as goal

abbrev pub invariant-loop-at : goal.invariant-loop-at
invariant-loop-at l = record {
  small : IsSmall l.least;
  reaches : Reaches l.seats l.claims l.least;
  least : All (λ b. Reaches l.seats l.claims b → IsUpTo l.least b) (take l.at-index l.breaks);
}
