-- The heights so far.
use Rattle.std.proofs.Common.{◌≡◌, ◌*◌, ◌≤◌, take}
use Rattle.std.specs.Prelude.{sum_by}
use Rattle.apf_cluster_picture.specs.Levels.{high_of}
use Rattle.apf_cluster_picture.proofs.level.all_high.Given as goal

abbrev pub invariant-loop-level : goal.invariant-loop-level
invariant-loop-level l = record {
  all : l.all ≡ sum_by high_of (take l.level-index l.levels);
  small : l.all ≤ 268 * l.level-index;
}
