use Rattle.std.proofs.Common.{◌<◌, ◌≤◌, ◌^◌, ◌-◌, ◌*◌}
use Rattle.apf_lending.proofs.root.root_of.Given as goal

abbrev pub invariant-loop-high : goal.invariant-loop-high
invariant-loop-high l = record {
  order : l.low < l.high;
  most : l.high ≤ 2 ^ 62;
  within : l.low * l.low ≤ l.number;
  above : l.number < l.high * l.high;
}

abbrev pub decreases-loop-high : goal.decreases-loop-high
decreases-loop-high l = l.high - l.low
