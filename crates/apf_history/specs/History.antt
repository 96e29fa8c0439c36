-- Histories of the queues. The newest event comes first in the list, so that a history followed by an event is the event before the history.
use Rattle.std.specs.Prelude.{◌≡◌, ℕ, ◌<◌, ◌≤◌, ◌==◌, ◌||◌, not, if◌then◌else◌, Bool, false, List, [], ◌∷◌, ◌++◌, length, filter, slice_get, slice_index, Contains, Some}
use Rattle.apf_history.specs.declared.events.Event.{Event}
use Rattle.apf_history.specs.declared.events.Event.TheVariants.{Enter, Full, Dispatch, Strike}

-- the request that an event names
abbrev pub request_of : Event → ℕ
request_of (Enter r q) = r
request_of (Full r q) = r
request_of (Dispatch r q) = r
request_of (Strike r q) = r

-- the queue that an event names
abbrev pub queue_of : Event → ℕ
queue_of (Enter r q) = q
queue_of (Full r q) = q
queue_of (Dispatch r q) = q
queue_of (Strike r q) = q

-- each event names one of the first n requests
abbrev pub NamesRequests : ℕ → List Event → Type 0
NamesRequests n [] = Unit {0}
NamesRequests n (e ∷ h) = (request_of e < n) × NamesRequests n h

-- each event names one of the first n queues
abbrev pub NamesQueues : ℕ → List Event → Type 0
NamesQueues n [] = Unit {0}
NamesQueues n (e ∷ h) = (queue_of e < n) × NamesQueues n h

-- the requests that entered q, in the order of entry
abbrev pub entered : List Event → ℕ → List ℕ
entered [] q = []
entered (Enter r p ∷ h) q = if p == q then entered h q ++ r ∷ [] else entered h q
entered (_ ∷ h) q = entered h q

-- r was dispatched or struck
abbrev pub has_left : List Event → ℕ → Bool
has_left [] r = false
has_left (Dispatch j q ∷ h) r = (j == r) || has_left h r
has_left (Strike j q ∷ h) r = (j == r) || has_left h r
has_left (_ ∷ h) r = has_left h r

-- r entered or was refused as full
abbrev pub has_arrived : List Event → ℕ → Bool
has_arrived [] r = false
has_arrived (Enter j q ∷ h) r = (j == r) || has_arrived h r
has_arrived (Full j q ∷ h) r = (j == r) || has_arrived h r
has_arrived (_ ∷ h) r = has_arrived h r

-- waiting in q: the requests that entered q and were neither dispatched nor struck, in the order of entry
abbrev pub waiting : List Event → ℕ → List ℕ
waiting h q = filter (λ r. not (has_left h r)) (entered h q)

-- q is the shortest queue of a hand: it has the fewest requests, and among equals was dealt first
pub record IsShortest (queue : ℕ → List ℕ) (hand : List ℕ) (q : ℕ) : Type 0 where
  pub place : ℕ
  pub is_dealt : slice_get hand place ≡ Some q
  pub has_fewest : (j : ℕ) → j < length hand → length (queue q) ≤ length (queue (slice_index hand j))
  pub is_first : (j : ℕ) → j < place → length (queue q) < length (queue (slice_index hand j))

-- an event that may follow a legal history, where each request has a hand of queues and queues have a length limit
abbrev pub MayFollow : (ℕ → List ℕ) → ℕ → List Event → Event → Type 0
MayFollow hands limit h (Enter r q) = (has_arrived h r ≡ false) × IsShortest (waiting h) (hands r) q × (length (waiting h q) < limit)
MayFollow hands limit h (Full r q) = (has_arrived h r ≡ false) × IsShortest (waiting h) (hands r) q × (length (waiting h q) ≡ limit)
MayFollow hands limit h (Dispatch r q) = slice_get (waiting h q) 0 ≡ Some r
MayFollow hands limit h (Strike r q) = Contains (waiting h q) r

-- a legal history
abbrev pub IsLegal : (ℕ → List ℕ) → ℕ → List Event → Type 0
IsLegal hands limit [] = Unit {0}
IsLegal hands limit (e ∷ h) = MayFollow hands limit h e × IsLegal hands limit h
