-- The pass stays one of the level's statistics.
use Rattle.std.proofs.Common.{◌≡◌}
use Rattle.apf_level_tests.proofs.reading.read_often.Given as goal

abbrev pub invariant-loop-reading : goal.invariant-loop-reading
invariant-loop-reading g l = l.stats.cell ≡ l.level.cell
