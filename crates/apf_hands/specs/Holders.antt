-- What is written of a flow, by the places of the flows that hold each queue.
use Rattle.std.specs.Prelude.{◌≡◌, ◌==◌, ℕ, suc, ◌-◌, List, [], ◌∷◌, Option, Some, None, Vec, nat_lt, if◌then◌else◌, length, map, slice_get}
use Rattle.std.specs.Borrow.{Bor}
use Rattle.std.specs.List.{flat_map, filter_map}
use Rattle.std.specs.declared.alloc.Global.{Global}
use Rattle.std.specs.Ordering.{nat_cmp}
use Rattle.std.specs.BTreeMap.{BTreeMap, get}
use Rattle.apf_hands.specs.Hands.{Flow, holds, sharers_line}

-- the places of a list in a map, and none where there is no list
abbrev pub listed : Option (Vec ℕ Global) → List ℕ
listed None = []
listed (Some places) = places.items

-- the places that a map has at a queue
abbrev pub places_at : BTreeMap ℕ (Vec ℕ Global) → ℕ → List ℕ
places_at holders queue = listed (get nat_cmp holders queue)

-- the places of those flows that hold a queue, in their order, where the first flow has this place
abbrev pub places_from : ℕ → List Flow → ℕ → List ℕ
places_from place [] queue = []
places_from place (flow ∷ flows) queue = if holds flow.hand queue then place ∷ places_from (suc place) flows queue else places_from (suc place) flows queue

-- at each queue are the places of the flows that hold it
pub record AreHolders (flows : List Flow) (places : ℕ → List ℕ) : Type 0 where
  pub each : (queue : ℕ) → places queue ≡ places_from 0 flows queue

-- the lists that references point to
abbrev pub lists_of : List (Bor (List ℕ)) → List (List ℕ)
lists_of rests = map (λ (rest : Bor (List ℕ)). rest.now) rests

-- the first place of each list
abbrev pub first_places : List (List ℕ) → List ℕ
first_places rests = filter_map (λ rest. slice_get rest 0) rests

-- the places behind one, where they begin with it, and all of them where they do not
abbrev pub behind : ℕ → List ℕ → List ℕ
behind place [] = []
behind place (first ∷ later) = if first == place then later else first ∷ later

-- how many are at a queue beside one of them
abbrev pub others_at : (ℕ → List ℕ) → ℕ → ℕ
others_at places queue = length (places queue) - 1

-- the line of a queue that others hold too, and nothing of one that a flow has alone
abbrev pub others_text : (ℕ → List ℕ) → ℕ → List ℕ
others_text places queue = if nat_lt 0 (others_at places queue) then sharers_line queue (others_at places queue) else []

-- the lines of the queues of a hand
abbrev pub all_others_text : (ℕ → List ℕ) → List ℕ → List ℕ
all_others_text places hand = flat_map (others_text places) hand
