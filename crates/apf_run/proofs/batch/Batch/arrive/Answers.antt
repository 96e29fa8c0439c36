-- A request comes.
use Rattle.apf_run.proofs.Batching.{arrival_kept}
use Rattle.apf_run.proofs.batch.Batch.arrive.Goals as goal

pub invariant_of-self : goal.invariant_of-self
invariant_of-self c = arrival_kept c.args.request c.self.inside.level c.arrive_renewed.new.self c.arrive_renewed.result.1 c.self.invariant c.arrive_renewed.ensures.same c.arrive_renewed.result.0 c.arrive_renewed.ensures.arrives
