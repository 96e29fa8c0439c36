-- The parts of those so far.
use Rattle.apf_simulator.specs.Hearing.{AreParts}
use Rattle.apf_simulator.proofs.listed.parts_of.Given as goal

abbrev pub invariant-loop-it : goal.invariant-loop-it
invariant-loop-it l = AreParts l.yielded l.requests.items l.ends.items
