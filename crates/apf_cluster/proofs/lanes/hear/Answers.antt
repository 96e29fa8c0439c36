use Rattle.std.proofs.Common.{List, subst}
use Rattle.apf_stream.specs.declared.ended.Ended.{Ended}
use Rattle.apf_cluster.specs.Drawn.{DrawsTold}
use Rattle.apf_cluster.proofs.lanes.hear.Goals as goal

pub returns-clause-draws : goal.returns-clause-draws
returns-clause-draws c = subst (λ (l : List Ended). DrawsTold l c.args.drawn.now c.hear-2.new.self) c.ends-2.ensures c.in_ok-hear-2.ensures.draws
