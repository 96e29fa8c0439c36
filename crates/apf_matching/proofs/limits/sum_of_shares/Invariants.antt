use Rattle.std.proofs.Common.{◌≡◌, ◌≤◌, ◌+◌, ◌*◌, length, map}
use Rattle.apf_matching.specs.Limits.{sum_of_shares}
use Rattle.apf_objects.specs.Levels.{level_view}
use Rattle.apf_matching.proofs.limits.sum_of_shares.Given as goal

abbrev pub invariant-loop-level : goal.invariant-loop-level
invariant-loop-level l = record {
  value : l.sum + sum_of_shares (map level_view l.rest) ≡ sum_of_shares (map level_view l.levels);
  most : l.sum + 4294967295 * length l.rest ≤ 4294967295 * length l.levels;
}

abbrev pub decreases-loop-level : goal.decreases-loop-level
decreases-loop-level l = length l.rest
