-- The history gets shorter.
use Rattle.std.proofs.Common.{length}
use Rattle.apf_plain.proofs.agreement.+has_dispatch.Given as goal

abbrev pub decreases-has_dispatch : goal.decreases-has_dispatch
decreases-has_dispatch l = length l.history.now
