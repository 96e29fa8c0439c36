-- Each turn has one thread less.
use Rattle.std.proofs.Common.{length}
use Rattle.apf_trials.proofs.levels.stress.crew.gather.Given as goal

abbrev pub decreases-loop-worker : goal.decreases-loop-worker
decreases-loop-worker g l = length l.workers.items
