use Rattle.apf_cluster.proofs.Asked.{came_asked}
use Rattle.apf_cluster.proofs.demand.come.Goals as goal

pub returns : goal.returns
returns c = came_asked c.args.came.now c.args.asking.now c.arrive.new.self c.in_ok-arrive.ensures.asks
