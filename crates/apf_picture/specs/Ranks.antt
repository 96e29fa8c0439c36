-- Which flows have a row of their own: those that waited longest.
use Rattle.std.specs.Prelude.{◌≡◌, ℕ, ◌+◌, ◌*◌, ◌^◌, ◌≤◌, List, [], ◌∷◌, take, map, Bool, true, false, ◌&&◌, ◌||◌, nat_lt, ◌==◌, if◌then◌else◌, count_by, IsPermutation, IsSortedBy}
use Rattle.std.specs.List.{range_with_len}
use Rattle.apf_picture.specs.declared.rank.Standing.{Standing}
use Rattle.apf_picture.specs.declared.scene.Outcome.{Outcome}

-- this many flows have a row of their own
abbrev pub own_rows : ℕ
own_rows = 12

-- how many requests a flow has
abbrev pub count_of : List ℕ → ℕ → ℕ
count_of of flow = count_by (λ other. other == flow) of

-- how long a request waited, if it is of the flow, and how long all of the flow waited in sum
abbrev pub wait_if : Bool → Outcome → ℕ
wait_if true outcome = outcome.wait
wait_if false outcome = 0

abbrev pub waited_by : List Outcome → (of : List ℕ) → (flow : ℕ) → ℕ
waited_by [] of flow = 0
waited_by (outcome ∷ outcomes) [] flow = 0
waited_by (outcome ∷ outcomes) (other ∷ of) flow = wait_if (other == flow) outcome + waited_by outcomes of flow

abbrev pub standing_of : List Outcome → (of : List ℕ) → ℕ → Standing
standing_of outcomes of flow = record { flow = flow; waited = waited_by outcomes of flow; requests = count_of of flow }

abbrev pub standings_of : List Outcome → (of : List ℕ) → (flows : ℕ) → List Standing
standings_of outcomes of flows = map (standing_of outcomes of) (range_with_len 0 flows)

-- the flow has no more requests than this, each of which waited less than 2^64 microseconds
abbrev pub IsOfSome : ℕ → Standing → Type 0
IsOfSome n s = (s.waited ≤ n * 2 ^ 64) × (s.requests ≤ n)

-- a flow comes before another one: it waited longer, or as long and has more requests, or as many and is the earlier one
abbrev pub comes_before : Standing → Standing → Bool
comes_before one other =
    nat_lt other.waited one.waited
    || ((other.waited == one.waited) && (nat_lt other.requests one.requests || ((other.requests == one.requests) && nat_lt one.flow other.flow)))

-- the flows that have a row of their own: the first twelve of all, in this order
pub record AreOwnFlows (outcomes : List Outcome) (of : List ℕ) (flows : ℕ) (own : List ℕ) : Type 0 where
  pub order : List Standing
  pub all : IsPermutation (standings_of outcomes of flows) order
  pub sorted : IsSortedBy comes_before order
  pub first : own ≡ map (λ it. it.flow) (take own_rows order)

-- the place of a flow among these, or how many they are
abbrev pub place_of : ℕ → List ℕ → ℕ
place_of flow [] = 0
place_of flow (other ∷ others) = if other == flow then 0 else place_of flow others + 1

-- the row of each flow: its own one, or the one that the others share
abbrev pub rows_of : (own : List ℕ) → (flows : ℕ) → List ℕ
rows_of own flows = map (λ flow. place_of flow own) (range_with_len 0 flows)
