-- A request that executes gave its seats back, and held them until then.
use Rattle.apf_local.proofs.Seats.{finishing_seated}
use Rattle.apf_local.proofs.level.LocalLevel.give_up.Goals as goal

pub returns-in-Runs-clause-seats : goal.returns-in-Runs-clause-seats
returns-in-Runs-clause-seats c = finishing_seated c.args.slot c.args.self.now c.finish.new.self c.finish.result c.finish.ensures.same c.finish.ensures.finishes c.finish.ensures.held
