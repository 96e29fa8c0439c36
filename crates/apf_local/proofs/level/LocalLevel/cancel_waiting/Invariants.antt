-- It is the same level, and nothing happened if all slots were free.
use Rattle.apf_local.proofs.Giving.{AreGivenUp}
use Rattle.apf_local.proofs.level.LocalLevel.cancel_waiting.Given as goal

abbrev pub invariant-loop-slot : goal.invariant-loop-slot
invariant-loop-slot l = AreGivenUp l.fn.self l.self 0
