-- A request is cancelled.
use Rattle.apf_run.proofs.Batching.{goes_on, stay_numbers}
use Rattle.apf_run.proofs.batch.Batch.cancel.Goals as goal

pub invariant_of-self : goal.invariant_of-self
invariant_of-self c = goes_on c.self.inside.level c.cancel.new.self c.self.invariant c.cancel.ensures.same (stay_numbers c.self.inside.level c.cancel.new.self c.cancel.ensures.slots) c.cancel.ensures.history
