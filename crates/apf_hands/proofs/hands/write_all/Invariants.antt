-- The lines of the flows so far were written.
use Rattle.std.proofs.Common.{take}
use Rattle.std.specs.List.{flat_map}
use Rattle.std.specs.Io.KnownBytes.{Appends}
use Rattle.apf_hands.specs.Dealt.{flows_of}
use Rattle.apf_hands.specs.Hands.{flow_text}
use Rattle.apf_hands.proofs.hands.write_all.Given as goal

abbrev pub invariant-loop-flow : goal.invariant-loop-flow
invariant-loop-flow g l = Appends (g.W.Write.contents l.initial.out) (g.W.Write.contents l.out) (flat_map (flow_text (flows_of l.flows)) (flows_of (take l.flow-index l.flows)))
