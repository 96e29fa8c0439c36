-- The history gets shorter.
use Rattle.std.proofs.Common.{length}
use Rattle.apf_plain.proofs.stats.+counted.Given as goal

abbrev pub decreases-counted : goal.decreases-counted
decreases-counted l = length l.history.now
