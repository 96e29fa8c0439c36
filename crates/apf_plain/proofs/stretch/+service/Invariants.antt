-- The list gets shorter.
use Rattle.std.proofs.Common.{length}
use Rattle.apf_plain.proofs.stretch.+service.Given as goal

abbrev pub decreases-service : goal.decreases-service
decreases-service l = length l.stretch.now
