-- A request gives its seats back.
use Rattle.apf_run.proofs.Batching.{goes_on, finish_numbers}
use Rattle.apf_run.proofs.batch.Batch.finish.Goals as goal

pub invariant_of-self : goal.invariant_of-self
invariant_of-self c = goes_on c.self.inside.level c.finish.new.self c.self.invariant c.finish.ensures.same (finish_numbers c.args.request c.self.inside.level c.finish.new.self c.finish.result c.finish.ensures.finishes) c.finish.ensures.history
