-- Of each slot so far there were no more requests than there are rounds.
use Rattle.std.proofs.Common.{◌*◌, ◌≤◌}
use Rattle.apf_run.proofs.rounds.newest.Newest.came.Given as goal

abbrev pub invariant-loop-round : goal.invariant-loop-round
invariant-loop-round g l = l.came ≤ l.round-index * g.K.Plan.rounds
