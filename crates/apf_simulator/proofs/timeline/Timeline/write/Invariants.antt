-- The lines of the calls so far were written.
use Rattle.std.proofs.Common.{take}
use Rattle.std.specs.List.{flat_map}
use Rattle.std.specs.Io.KnownBytes.{Appends}
use Rattle.apf_simulator.specs.Calls.{call_text}
use Rattle.apf_simulator.proofs.timeline.Timeline.write.Given as goal

abbrev pub invariant-loop-call : goal.invariant-loop-call
invariant-loop-call g l = Appends (g.W.Write.contents l.initial.out) (g.W.Write.contents l.out) (flat_map call_text (take l.call-index l.self.calls.items))
