-- The lanes of the levels so far, whatever the lanes of the others will be.
use Rattle.std.proofs.Common.{◌≤◌, List, ◌++◌, length, map}
use Rattle.apf_matching.specs.Limits.{sum_of_shares}
use Rattle.apf_objects.specs.Levels.{level_view}
use Rattle.apf_changes.specs.Scenarios.{assigned_view}
use Rattle.apf_cluster.specs.Runs.{AreOpened}
use Rattle.apf_cluster.specs.declared.lanes.LevelLane.{LevelLane}
use Rattle.apf_cluster.proofs.lanes.open_lanes.Given as goal

abbrev pub invariant-loop-level : goal.invariant-loop-level
invariant-loop-level l = record {
  shares : sum_of_shares (map level_view l.rest) ≤ l.all;
  opened : (more : List LevelLane) → AreOpened l.terms (map assigned_view l.fixed) l.all (map level_view l.rest) more
      → AreOpened l.terms (map assigned_view l.fixed) l.all (map level_view l.levels) (l.lanes.items ++ more);
}

abbrev pub decreases-loop-level : goal.decreases-loop-level
decreases-loop-level l = length l.rest
