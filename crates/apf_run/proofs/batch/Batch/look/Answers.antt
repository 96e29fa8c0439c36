-- The level word is read.
use Rattle.apf_run.proofs.Batching.{goes_on, stay_numbers}
use Rattle.apf_run.proofs.batch.Batch.look.Goals as goal

pub invariant_of-self : goal.invariant_of-self
invariant_of-self c = goes_on c.self.inside.level c.look.new.self c.self.invariant c.look.ensures.same (stay_numbers c.self.inside.level c.look.new.self c.look.ensures.slots) c.look.ensures.history
