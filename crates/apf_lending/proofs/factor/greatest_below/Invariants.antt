use Rattle.std.proofs.Common.{take}
use Rattle.apf_lending.specs.Breaks.{AreApart, IsLess, IsOneOf, IsSmall}
use Rattle.apf_lending.proofs.factor.greatest_below.Given as goal

abbrev pub invariant-loop-at : goal.invariant-loop-at
invariant-loop-at l = record {
  small : IsSmall l.below;
  less : IsLess l.below l.from;
  apart : AreApart l.below l.from (take l.at-index l.breaks);
  one : IsOneOf l.below l.breaks;
}
