-- Rings of nodes, linked both ways.
use Rattle.std.specs.Prelude.{◌≡◌, ◌≢◌, ℕ, ◌-◌, ◌^◌, ◌<◌, ◌==◌, if◌then◌else◌, List, [], ◌∷◌, length, map, slice_index, Option, Some, None}
use Rattle.std.specs.List.{range_with_len}
use Rattle.apf_queue.specs.declared.nodes.Node.{Node}

-- the node after each node, and the node before each
abbrev pub next_nodes : List Node → List ℕ
next_nodes nodes = map (λ (n : Node). n.next) nodes

abbrev pub previous_nodes : List Node → List ℕ
previous_nodes nodes = map (λ (n : Node). n.previous) nodes

-- what stands in place of a queue where a request stands in none
abbrev pub no_queue : ℕ
no_queue = 2 ^ 32 - 1

-- the queue that is stored so, if any
abbrev pub queue_stored : ℕ → Option ℕ
queue_stored q = if q == no_queue then None else Some q

-- the queue in which the request of each node stands, if any
abbrev pub queues_of : List Node → List (Option ℕ)
queues_of nodes = map (λ (n : Node). queue_stored n.queue) nodes

-- what the dispatch of the request of each node is charged
abbrev pub costs_of : List Node → List ℕ
costs_of nodes = map (λ (n : Node). n.cost) nodes

-- the node of this number, alone and in no queue
abbrev pub alone_node : ℕ → Node
alone_node number = record { next = number; previous = number; queue = no_queue; cost = 0 }

-- this many nodes, each alone and in no queue
abbrev pub alone_nodes : ℕ → List Node
alone_nodes count = map alone_node (range_with_len 0 count)

-- i is none of these
abbrev pub NotIn : ℕ → List ℕ → Type 0
NotIn i [] = Unit {0}
NotIn i (x ∷ xs) = (i ≢ x) × NotIn i xs

-- no node stands there twice
abbrev pub AreApart : List ℕ → Type 0
AreApart [] = Unit {0}
AreApart (x ∷ xs) = NotIn x xs × AreApart xs

-- from node a, the links lead along these nodes to b
abbrev pub Leads : List ℕ → ℕ → List ℕ → ℕ → Type 0
Leads next a [] b = slice_index next a ≡ b
Leads next a (x ∷ xs) b = (slice_index next a ≡ x) × Leads next x xs b

-- the ring of a head: the nodes after it, in order
abbrev pub IsRing : List ℕ → ℕ → List ℕ → Type 0
IsRing next head nodes = Leads next head nodes head

-- the two links of each node lead back to it
pub record AreLinked (next previous : List ℕ) : Type 0 where
  pub same_len : length next ≡ length previous
  pub next_in : (i : ℕ) → i < length next → slice_index next i < length next
  pub previous_in : (i : ℕ) → i < length next → slice_index previous i < length next
  pub back : (i : ℕ) → i < length next → slice_index previous (slice_index next i) ≡ i
  pub forth : (i : ℕ) → i < length next → slice_index next (slice_index previous i) ≡ i
