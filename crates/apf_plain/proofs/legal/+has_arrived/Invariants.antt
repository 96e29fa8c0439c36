-- The history gets shorter.
use Rattle.std.proofs.Common.{length}
use Rattle.apf_plain.proofs.legal.+has_arrived.Given as goal

abbrev pub decreases-has_arrived : goal.decreases-has_arrived
decreases-has_arrived l = length l.history.now
