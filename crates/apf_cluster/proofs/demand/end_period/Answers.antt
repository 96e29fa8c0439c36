use Rattle.apf_cluster.proofs.Asked.{ended_asked}
use Rattle.apf_cluster.proofs.demand.end_period.Goals as goal

pub returns-clause-claims : goal.returns-clause-claims
returns-clause-claims c = ended_asked c.args.at c.in_ok-end_period.field-0 c.args.asking.now c.end_period.new.self c.in_ok-end_period.ensures.ends
