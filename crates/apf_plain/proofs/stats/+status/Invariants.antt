-- The history gets shorter.
use Rattle.std.proofs.Common.{length}
use Rattle.apf_plain.proofs.stats.+status.Given as goal

abbrev pub decreases-status : goal.decreases-status
decreases-status l = length l.history.now
