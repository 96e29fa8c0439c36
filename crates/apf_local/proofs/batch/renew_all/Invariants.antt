-- The slots so far have their requests.
use Rattle.apf_local.specs.Batches.{BecomeFresh}
use Rattle.apf_local.proofs.batch.renew_all.Given as goal

abbrev pub invariant-loop-slot : goal.invariant-loop-slot
invariant-loop-slot l = BecomeFresh l.fn.level l.asks l.slot l.level
