-- The step is a power of ten of units, five times of it fit a number, and no smaller round number is enough.
use Rattle.std.proofs.Common.{◌-◌, ◌*◌, ◌<◌, ◌^◌}
use Rattle.apf_picture.proofs.Steps.{IsPower, IsTooFew}
use Rattle.apf_picture.proofs.scale.step.Given as goal

abbrev pub invariant-loop-one : goal.invariant-loop-one
invariant-loop-one l = record {
  power : IsPower l.unit l.one;
  positive : 0 < l.one;
  short : 5 * l.one < 2 ^ 64;
  few : IsTooFew l.end l.unit l.one;
}

abbrev pub decreases-loop-one : goal.decreases-loop-one
decreases-loop-one l = l.least - l.one
