-- What the flows of the code with their hands are.
use Rattle.std.specs.Prelude.{List, map}
use Rattle.apf_hands.specs.declared.dealt.Dealt.{Dealt}
use Rattle.apf_hands.specs.Hands.{Flow}

-- a flow with its hand
abbrev pub flow_of : Dealt → Flow
flow_of dealt = record { hash = dealt.first.now.hash; names = dealt.first.now.names; hand = dealt.hand.items }

abbrev pub flows_of : List Dealt → List Flow
flows_of dealt = map flow_of dealt
