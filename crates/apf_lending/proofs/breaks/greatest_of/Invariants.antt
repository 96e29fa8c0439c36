use Rattle.std.proofs.Common.{All, take}
use Rattle.apf_lending.specs.Breaks.{IsSmall, IsUpTo}
use Rattle.apf_lending.proofs.breaks.greatest_of.Given as goal

abbrev pub invariant-loop-at : goal.invariant-loop-at
invariant-loop-at l = record {
  small : IsSmall l.greatest;
  greatest : All (λ b. IsUpTo b l.greatest) (take l.at-index l.breaks);
}
