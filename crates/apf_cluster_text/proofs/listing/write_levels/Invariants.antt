use Rattle.std.proofs.Common.{◌≤◌, length, map}
use Rattle.apf_matching.specs.Limits.{sum_of_shares}
use Rattle.apf_objects.specs.Levels.{level_view}
use Rattle.apf_cluster_text.proofs.listing.write_levels.Given as goal

abbrev pub invariant-loop-level : goal.invariant-loop-level
invariant-loop-level g l = sum_of_shares (map level_view l.rest) ≤ l.all

abbrev pub decreases-loop-level : goal.decreases-loop-level
decreases-loop-level g l = length l.rest
