-- The flows that were dealt their hands.
use Rattle.std.specs.Prelude.{◌≡◌, ◌≢◌, ℕ, List, All, AllPairs, map, nat_eq, Option, Some, None, length}
use Rattle.std.specs.List.{IsDistinct}
use Rattle.apf_flow.specs.Sizes.{Sizes}
use Rattle.apf_hands.specs.declared.dealt.Dealt.{Dealt}
use Rattle.apf_hands.specs.Alike.{AreOrdered}
use Rattle.apf_hands.specs.Hands.{hand_by}

-- how many queues a hand has
abbrev pub size_by : Option Sizes → ℕ
size_by None = 0
size_by (Some sizes) = sizes.hand

-- the flow has the hand of its hash, of distinct queues, and these in ascending order
pub record IsDealt (sizes : Option Sizes) (flow : Dealt) : Type 0 where
  pub hand : flow.hand.items ≡ hand_by sizes flow.first.now.hash
  pub size : length flow.hand.items ≡ size_by sizes
  pub distinct : AllPairs (λ queue later. queue ≢ later) flow.hand.items
  pub queues : AreOrdered flow.hand.items flow.queues.items

-- the flows are distinct, and each was dealt its hand by the same sizes
pub record HaveHands (flows : List Dealt) : Type 0 where
  pub sizes : Option Sizes
  pub each : All (IsDealt sizes) flows
  pub distinct : IsDistinct nat_eq (map (λ flow. flow.first.now.hash) flows)
