-- Each queue has the places of those of the flows so far that hold it.
use Rattle.std.proofs.Common.{take}
use Rattle.apf_hands.specs.Dealt.{flows_of}
use Rattle.apf_hands.specs.Holders.{AreHolders, places_at}
use Rattle.apf_hands.proofs.holders.holders_of.Given as goal

abbrev pub invariant-loop-place : goal.invariant-loop-place
invariant-loop-place l = AreHolders (flows_of (take l.place l.flows)) (places_at l.holders)
