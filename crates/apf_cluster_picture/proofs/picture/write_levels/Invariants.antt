-- The levels so far were written, and the next one begins where they end.
use Rattle.std.proofs.Common.{◌≡◌, ◌+◌, ◌*◌, ◌≤◌, take}
use Rattle.std.specs.Prelude.{sum_by}
use Rattle.std.specs.Io.KnownBytes.{Appends}
use Rattle.apf_cluster_picture.specs.Levels.{high_of}
use Rattle.apf_cluster_picture.specs.Pictures.{levels_text}
use Rattle.apf_cluster_picture.proofs.picture.write_levels.Given as goal

abbrev pub invariant-loop-level : goal.invariant-loop-level
invariant-loop-level g l = record {
  levels : Appends (g.W.Write.contents l.initial.out) (g.W.Write.contents l.out) (levels_text (take l.level-index l.levels) l.end);
  top : l.top ≡ 124 + sum_by high_of (take l.level-index l.levels);
  few : l.top ≤ 124 + 268 * l.level-index;
}
