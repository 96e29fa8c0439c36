-- What is left of the rank, and how many have the places so far.
use Rattle.std.proofs.Common.{◌≡◌, ◌+◌, ◌<◌, sum, take}
use Rattle.apf_times.proofs.tally.Tally.percentile.Given as goal

abbrev pub invariant-loop-place : goal.invariant-loop-place
invariant-loop-place g l = record {
  left : l.left + sum (take l.place l.count-items) ≡ l.rank;
  some : 0 < l.left;
}
