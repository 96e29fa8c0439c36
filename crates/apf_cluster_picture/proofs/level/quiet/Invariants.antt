-- How many so far.
use Rattle.std.proofs.Common.{◌≡◌, ◌≤◌, take}
use Rattle.apf_cluster_picture.specs.Levels.{quiet_of}
use Rattle.apf_cluster_picture.proofs.level.quiet.Given as goal

abbrev pub invariant-loop-level : goal.invariant-loop-level
invariant-loop-level l = record {
  quiet : l.quiet ≡ quiet_of (take l.level-index l.levels);
  few : l.quiet ≤ l.level-index;
}
