-- The nominal limits of the levels so far.
use Rattle.std.proofs.Common.{◌≡◌, ◌<◌, ◌+◌, ◌^◌, length}
use Rattle.apf_cluster.specs.Runs.{nominal_of_all}
use Rattle.apf_cluster.proofs.lending.sum_of_nominal.Given as goal

abbrev pub invariant-loop-level : goal.invariant-loop-level
invariant-loop-level l = record {
  value : l.sum + nominal_of_all l.rest ≡ nominal_of_all l.lanes;
  few : l.sum < 2 ^ 59;
}

abbrev pub decreases-loop-level : goal.decreases-loop-level
decreases-loop-level l = length l.rest
