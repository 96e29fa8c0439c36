use Rattle.std.proofs.Common.{◌≡◌, All, take}
use Rattle.apf_lending.specs.Breaks.{IsSmall, breaks_of}
use Rattle.apf_lending.proofs.breaks.breaks_of.Given as goal

abbrev pub invariant-loop-claim : goal.invariant-loop-claim
invariant-loop-claim l = record {
  breaks : l.breaks.items ≡ breaks_of (take l.claim-index l.claims);
  small : All IsSmall l.breaks.items;
}
