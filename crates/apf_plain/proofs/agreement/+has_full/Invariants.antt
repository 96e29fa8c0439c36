-- The history gets shorter.
use Rattle.std.proofs.Common.{length}
use Rattle.apf_plain.proofs.agreement.+has_full.Given as goal

abbrev pub decreases-has_full : goal.decreases-has_full
decreases-has_full l = length l.history.now
