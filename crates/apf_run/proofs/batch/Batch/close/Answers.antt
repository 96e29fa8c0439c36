-- The level is closed.
use Rattle.apf_run.proofs.Batching.{goes_on, stay_numbers}
use Rattle.apf_run.proofs.batch.Batch.close.Goals as goal

pub invariant_of-self : goal.invariant_of-self
invariant_of-self c = goes_on c.self.inside.level c.close.new.self c.self.invariant c.close.ensures.same (stay_numbers c.self.inside.level c.close.new.self c.close.ensures.slots) c.close.ensures.history
