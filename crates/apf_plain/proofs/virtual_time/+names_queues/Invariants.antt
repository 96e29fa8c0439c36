-- The history gets shorter.
use Rattle.std.proofs.Common.{length}
use Rattle.apf_plain.proofs.virtual_time.+names_queues.Given as goal

abbrev pub decreases-names_queues : goal.decreases-names_queues
decreases-names_queues l = length l.history.now
