use Rattle.std.proofs.Common.{List, subst}
use Rattle.apf_stream.specs.declared.ended.Ended.{Ended}
use Rattle.apf_cluster.specs.Late.{CountsTold}
use Rattle.apf_cluster.proofs.late.Late.hear.Goals as goal

pub returns-clause-counts : goal.returns-clause-counts
returns-clause-counts c = subst (λ (l : List Ended). CountsTold l c.args.self.now c.add_all.new.self) c.ends.ensures c.in_ok-add_all.ensures.counts
