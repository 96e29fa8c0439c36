-- The flows that have the same queues in their hands.
use Rattle.std.specs.Prelude.{◌≡◌, ℕ, ◌-◌, List, [], ◌∷◌, ◌++◌, Vec, not, ◌==◌, length, filter, map, bytes_eq}
use Rattle.std.specs.Borrow.{Bor}
use Rattle.std.specs.BTreeMap.{BTreeMap, get_by}
use Rattle.std.specs.Cmp.Lexicographic.{slice_cmp}
use Rattle.std.specs.List.Sorted.{IsPermutation, IsSorted}
use Rattle.std.specs.Ordering.{nat_cmp}
use Rattle.std.specs.declared.alloc.Global.{Global}
use Rattle.apf_hands.specs.declared.dealt.Dealt.{Dealt}
use Rattle.apf_hands.specs.Hands.{Flow, covering_text, covers_text, hand_text, shares_text}
use Rattle.apf_hands.specs.Holders.{all_others_text, listed}

-- these are the queues of a hand in ascending order
pub record AreOrdered (hand queues : List ℕ) : Type 0 where
  pub same : IsPermutation hand queues
  pub order : IsSorted nat_cmp queues

-- the hashes that a map has at some queues
abbrev pub hashes_at : BTreeMap (Bor (List ℕ)) (Vec ℕ Global) → List ℕ → List ℕ
hashes_at alike queues = listed (get_by (λ key. slice_cmp nat_cmp queues key.now) alike)

-- the flows with these queues
abbrev pub with_queues : List ℕ → List Dealt → List Dealt
with_queues queues flows = filter (λ flow. bytes_eq flow.queues.items queues) flows

-- at some queues are the hashes of the flows that have them, in their order
pub record AreAlike (flows : List Dealt) (hashes : List ℕ → List ℕ) : Type 0 where
  pub each : (queues : List ℕ) → hashes queues ≡ map (λ flow. flow.first.now.hash) (with_queues queues flows)

-- the hashes at the queues of a hand, and none where it has no queue
abbrev pub hashes_for : (List ℕ → List ℕ) → List ℕ → List ℕ
hashes_for hashes [] = []
hashes_for hashes (queue ∷ queues) = hashes (queue ∷ queues)

-- the hashes but one
abbrev pub others_of : ℕ → List ℕ → List ℕ
others_of hash hashes = filter (λ other. not (hash == other)) hashes

-- the hash stands among these once, or there are none
pub record IsOnce (hash : ℕ) (hashes : List ℕ) : Type 0 where
  pub others : length (others_of hash hashes) ≡ length hashes - 1

-- the lines of a flow, by the places of the flows that hold each queue, and by the hashes of those with the queues of its hand
abbrev pub held_text : (ℕ → List ℕ) → List ℕ → Flow → List ℕ
held_text places hashes flow = hand_text flow ++ all_others_text places flow.hand ++ covering_text (others_of flow.hash hashes)

-- the lines of a flow with each other flow that shares a queue, by the hashes of those with the queues of its hand
abbrev pub held_whole_text : List ℕ → List Flow → Flow → List ℕ
held_whole_text hashes flows flow = hand_text flow ++ shares_text flow flows ++ covers_text (others_of flow.hash hashes)
