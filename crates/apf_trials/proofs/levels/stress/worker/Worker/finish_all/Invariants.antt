-- Each turn has one request less.
use Rattle.std.proofs.Common.{length}
use Rattle.apf_trials.proofs.levels.stress.worker.Worker.finish_all.Given as goal

abbrev pub decreases-loop-request : goal.decreases-loop-request
decreases-loop-request g l = length l.requests.items
