-- The slots so far are free.
use Rattle.apf_local.proofs.Giving.{AreGivenUp}
use Rattle.apf_local.proofs.level.LocalLevel.give_up_all.Given as goal

abbrev pub invariant-loop-slot : goal.invariant-loop-slot
invariant-loop-slot l = AreGivenUp l.fn.self l.self l.slot
