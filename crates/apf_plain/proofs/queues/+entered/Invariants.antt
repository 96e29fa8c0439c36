-- The history gets shorter.
use Rattle.std.proofs.Common.{length}
use Rattle.apf_plain.proofs.queues.+entered.Given as goal

abbrev pub decreases-entered : goal.decreases-entered
decreases-entered l = length l.history.now
