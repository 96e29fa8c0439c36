-- Those in front are told.
use Rattle.std.proofs.Common.{ℕ, List, Option}
use Rattle.apf_simulator.specs.Hearing.{Tells}
use Rattle.apf_simulator.specs.Turns.{Turn}
use Rattle.apf_simulator.proofs.telling.Telling.tell.Given as goal

abbrev pub invariant-lines : goal.invariant-lines
invariant-lines g l = (before : Option (List ℕ)) (turns : List Turn) → Tells before (g.W.Write.contents l.initial.out) turns l.initial.self.has_begun l.initial.self.held → Tells before (g.W.Write.contents l.out) turns l.self.has_begun l.self.held
