use Rattle.apf_cluster.specs.Late.{AreCountedBy}
use Rattle.apf_cluster.proofs.Counted.{table_of_all}
use Rattle.apf_cluster.proofs.late.Late.close.Goals as goal
use Rattle.std.proofs.Common.{subst}

pub returns-in-None : goal.returns-in-None
returns-in-None c = λ came told are is. table_of_all c.args.self.since came told c.args.whole (subst (λ rows. AreCountedBy c.args.self.since came told rows) c.in-None.is are) is
