-- The lines of the flows so far were written, and each time fewer places are left.
use Rattle.apf_hands.specs.Dealt.{flow_of, flows_of}
use Rattle.apf_hands.specs.Holders.{lists_of}
use Rattle.apf_hands.proofs.Merged.{HasShared, how_many}
use Rattle.apf_hands.proofs.sharing.write_shares.Given as goal

abbrev pub invariant-loop-place : goal.invariant-loop-place
invariant-loop-place g l = HasShared (flow_of l.flow) (flows_of l.flows) (lists_of l.rests.items) (g.W.Write.contents l.initial.out) (g.W.Write.contents l.out)

abbrev pub decreases-loop-place : goal.decreases-loop-place
decreases-loop-place g l = how_many (lists_of l.rests.items)
