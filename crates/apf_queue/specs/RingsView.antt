-- The rings of the queues, seen as lists of requests.
use Rattle.std.specs.Prelude.{◌≡◌, ℕ, zero, suc, ◌+◌, ◌^◌, ◌<◌, ◌==◌, not, List, [], ◌∷◌, length, slice_index, slice_index_or, filter, Contains, Option, Some, None}
use Rattle.apf_queue.specs.Nodes.{AreApart, IsRing, AreLinked}

-- what contracts see: the requests that stand in each queue, in order, what the dispatch of each request is charged, and how many requests there are
pub record RingsView : Type 0 where
  pub queues : List (List ℕ)
  pub costs : List ℕ
  pub requests : ℕ

-- the requests that stand in queue q
abbrev pub ring : RingsView → ℕ → List ℕ
ring s q = slice_index_or s.queues q []

-- the list without r
abbrev pub without : ℕ → List ℕ → List ℕ
without r rs = filter (λ j. not (r == j)) rs

-- the nodes after a, as many as the number says
abbrev pub follow : List ℕ → ℕ → ℕ → List ℕ
follow next a zero = []
follow next a (suc n) = slice_index next a ∷ follow next (slice_index next a) n

-- the rings of the heads from `head` on, of these lengths
abbrev pub rings_from : List ℕ → ℕ → List ℕ → List (List ℕ)
rings_from next head [] = []
rings_from next head (n ∷ ns) = follow next head n ∷ rings_from next (suc head) ns

-- the ring of queue q, whose head is the node after the requests and q more
abbrev pub ring_at : ℕ → List ℕ → List ℕ → ℕ → List ℕ
ring_at requests next lengths q = follow next (requests + q) (slice_index lengths q)

-- the queue in which a request stands, if any
abbrev pub queue_at : List (Option ℕ) → ℕ → Option ℕ
queue_at queue_of r = slice_index_or queue_of r None

-- the fields spell these queues
pub record AreRings (requests : ℕ) (next previous : List ℕ) (queue_of : List (Option ℕ)) (lengths : List ℕ) (queue : ℕ → List ℕ) : Type 0 where
  pub linked : AreLinked next previous
  pub one_node_each : length next ≡ requests + length lengths
  pub nodes_fit : requests + length lengths < 2 ^ 32
  pub one_queue_each : length queue_of ≡ length next
  pub ring : (q : ℕ) → q < length lengths → IsRing next (requests + q) (queue q)
  pub apart : (q : ℕ) → q < length lengths → AreApart (queue q)
  pub counted : (q : ℕ) → q < length lengths → slice_index lengths q ≡ length (queue q)
  -- each request of a queue has that queue recorded, and the other way round
  pub owned : (q : ℕ) → q < length lengths → (r : ℕ) → Contains (queue q) r → (r < requests) × (queue_at queue_of r ≡ Some q)
  pub found : (q r : ℕ) → queue_at queue_of r ≡ Some q → (q < length lengths) × Contains (queue q) r
  -- a request that stands in no queue is alone
  pub alone : (r : ℕ) → r < requests → queue_at queue_of r ≡ None → slice_index next r ≡ r
