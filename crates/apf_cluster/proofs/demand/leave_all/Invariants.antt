-- Those so far are over.
use Rattle.std.proofs.Common.{take}
use Rattle.apf_cluster.specs.Lending.{AreOver}
use Rattle.apf_cluster.proofs.demand.leave_all.Given as goal

abbrev pub invariant-loop-ended : goal.invariant-loop-ended
invariant-loop-ended l = AreOver (take l.ended-index l.ends) l.initial.asking l.asking
