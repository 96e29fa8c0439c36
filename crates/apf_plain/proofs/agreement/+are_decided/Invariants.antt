-- The history gets shorter.
use Rattle.std.proofs.Common.{length}
use Rattle.apf_plain.proofs.agreement.+are_decided.Given as goal

abbrev pub decreases-are_decided : goal.decreases-are_decided
decreases-are_decided l = length l.history.now
