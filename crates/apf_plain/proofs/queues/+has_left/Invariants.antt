-- The history gets shorter.
use Rattle.std.proofs.Common.{length}
use Rattle.apf_plain.proofs.queues.+has_left.Given as goal

abbrev pub decreases-has_left : goal.decreases-has_left
decreases-has_left l = length l.history.now
