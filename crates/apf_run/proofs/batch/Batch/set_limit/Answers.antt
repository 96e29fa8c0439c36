-- The limit is set.
use Rattle.apf_run.proofs.Batching.{goes_on, stay_numbers}
use Rattle.apf_run.proofs.batch.Batch.set_limit.Goals as goal

pub invariant_of-self : goal.invariant_of-self
invariant_of-self c = goes_on c.self.inside.level c.set_limit.new.self c.self.invariant c.set_limit.ensures.same (stay_numbers c.self.inside.level c.set_limit.new.self c.set_limit.ensures.slots) c.set_limit.ensures.history
