-- What was published so far is below what comes next.
use Rattle.std.proofs.Common.{[], ◌∷◌}
use Rattle.apf_stats.specs.Numbers.{IsBelow}
use Rattle.apf_stats.specs.Traces.{shown}
use Rattle.apf_level_tests.proofs.stats.readings.publish_all.Given as goal

abbrev pub invariant-loop-requests : goal.invariant-loop-requests
invariant-loop-requests g l = IsBelow (shown l.board.trace) (l.requests ∷ 0 ∷ l.requests ∷ 0 ∷ [])
