-- The hashes of the flows so far stand at the queues of their hands.
use Rattle.std.proofs.Common.{take}
use Rattle.apf_hands.specs.Alike.{AreAlike, hashes_at}
use Rattle.apf_hands.proofs.alike.alike_of.Given as goal

abbrev pub invariant-loop-flow : goal.invariant-loop-flow
invariant-loop-flow l = AreAlike (take l.flow-index l.flows) (hashes_at l.alike)
