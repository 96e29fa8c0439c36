use Rattle.apf_cluster.proofs.Asked.{over_asked}
use Rattle.apf_cluster.proofs.demand.leave.Goals as goal

pub returns : goal.returns
returns c = over_asked c.args.ended.now c.args.asking.now c.leave.new.self c.in_ok-leave.ensures.enough c.in_ok-leave.ensures.asks
