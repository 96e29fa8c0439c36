-- The pass stays one of this cell.
use Rattle.std.proofs.Common.{◌≡◌}
use Rattle.apf_level_tests.proofs.stats.readings.read_all.Given as goal

abbrev pub invariant-loop-turn : goal.invariant-loop-turn
invariant-loop-turn g l = l.pass.cell ≡ l.window
