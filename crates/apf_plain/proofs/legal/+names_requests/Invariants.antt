-- The history gets shorter.
use Rattle.std.proofs.Common.{length}
use Rattle.apf_plain.proofs.legal.+names_requests.Given as goal

abbrev pub decreases-names_requests : goal.decreases-names_requests
decreases-names_requests l = length l.history.now
