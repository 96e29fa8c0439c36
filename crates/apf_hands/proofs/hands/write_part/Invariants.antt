-- The lines of the flows so far were written, where they have the name.
use Rattle.std.proofs.Common.{take}
use Rattle.std.specs.Io.KnownBytes.{Appends}
use Rattle.apf_hands.specs.Dealt.{flows_of}
use Rattle.apf_hands.specs.Hands.{part_text}
use Rattle.apf_hands.proofs.hands.write_part.Given as goal

abbrev pub invariant-loop-flow : goal.invariant-loop-flow
invariant-loop-flow g l = Appends (g.W.Write.contents l.initial.out) (g.W.Write.contents l.out) (part_text l.distinguisher (flows_of l.flows) (flows_of (take l.flow-index l.flows)))
