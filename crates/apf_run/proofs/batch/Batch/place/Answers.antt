-- A request reads its decision.
use Rattle.apf_run.proofs.Batching.{goes_on, reading_numbers}
use Rattle.apf_run.proofs.batch.Batch.place.Goals as goal

pub invariant_of-self : goal.invariant_of-self
invariant_of-self c = goes_on c.self.inside.level c.place.new.self c.self.invariant c.place.ensures.same (reading_numbers c.args.request c.self.inside.level c.place.new.self c.place.result c.place.ensures.reads) c.place.ensures.history
