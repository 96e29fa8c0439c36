-- What is true of every legal history: what became of each request, the order of each queue, and the numbers.
use Rattle.std.specs.Prelude.{◌≡◌, ◌≢◌, ◌↔◌, ℕ, ◌+◌, ◌*◌, ◌<◌, ◌≤◌, ◌==◌, ◌||◌, not, if◌then◌else◌, Bool, true, false, List, [], ◌∷◌, ◌++◌, length, drop, filter, count_by, Contains, AllPairs}
use Rattle.apf_history.specs.declared.events.Event.{Event}
use Rattle.apf_history.specs.declared.events.Event.TheVariants.{Enter, Full, Dispatch, Strike}
use Rattle.apf_history.specs.declared.events.Status.{Status}
use Rattle.apf_history.specs.declared.events.Status.TheVariants as status_is
use Rattle.apf_history.specs.Numbered.{put}
use Rattle.apf_history.specs.History.{request_of, queue_of, NamesRequests, NamesQueues, entered, has_arrived, waiting}
use Rattle.apf_history.specs.Outcome.{stats_of}

-- what an event makes of its request
abbrev pub makes : Event → Status
makes (Enter r q) = status_is.Waits
makes (Full r q) = status_is.Full
makes (Dispatch r q) = status_is.Dispatched
makes (Strike r q) = status_is.Struck

-- what became of a request: what the newest event that names it made of it
abbrev pub status : List Event → ℕ → Status
status [] r = status_is.Away
status (e ∷ h) r = put (status h) (request_of e) (makes e) r

-- what an event finds of its request
abbrev pub finds : Event → Status
finds (Enter r q) = status_is.Away
finds (Full r q) = status_is.Away
finds (Dispatch r q) = status_is.Waits
finds (Strike r q) = status_is.Waits

-- the requests of this status entered a queue
abbrev pub has_entered : Status → Bool
has_entered status_is.Waits = true
has_entered status_is.Dispatched = true
has_entered status_is.Struck = true
has_entered _ = false

-- the requests dispatched from q, in the order of their dispatch
abbrev pub dispatched_from : List Event → ℕ → List ℕ
dispatched_from [] q = []
dispatched_from (Dispatch r p ∷ h) q = if p == q then dispatched_from h q ++ r ∷ [] else dispatched_from h q
dispatched_from (_ ∷ h) q = dispatched_from h q

-- r was struck
abbrev pub is_struck : List Event → ℕ → Bool
is_struck [] r = false
is_struck (Strike j q ∷ h) r = (j == r) || is_struck h r
is_struck (_ ∷ h) r = is_struck h r

-- what an event makes of the requests that wait in its queue
abbrev pub changed : Event → List ℕ → List ℕ
changed (Enter r q) rs = rs ++ r ∷ []
changed (Full r q) rs = rs
changed (Dispatch r q) rs = drop 1 rs
changed (Strike r q) rs = filter (λ j. not (r == j)) rs

-- the events of one request
abbrev pub is_event_of : ℕ → Event → Bool
is_event_of r e = request_of e == r

abbrev pub is_enter_of : ℕ → Event → Bool
is_enter_of r (Enter j q) = j == r
is_enter_of r _ = false

abbrev pub is_dispatch_of : ℕ → Event → Bool
is_dispatch_of r (Dispatch j q) = j == r
is_dispatch_of r _ = false

-- the events of one queue
abbrev pub is_enter_into : ℕ → Event → Bool
is_enter_into q (Enter r p) = p == q
is_enter_into q _ = false

abbrev pub is_dispatch_from : ℕ → Event → Bool
is_dispatch_from q (Dispatch r p) = p == q
is_dispatch_from q _ = false

abbrev pub is_strike_from : ℕ → Event → Bool
is_strike_from q (Strike r p) = p == q
is_strike_from q _ = false

-- the queues of a legal history, under a length limit
pub record AreInOrder (limit : ℕ) (h : List Event) : Type 0 where
  -- the requests that entered a queue, in order, the struck ones left out, are those dispatched from it in order, followed by those that wait in it
  pub in_order : (q : ℕ) → filter (λ r. not (is_struck h r)) (entered h q) ≡ dispatched_from h q ++ waiting h q
  -- nobody enters twice
  pub enters_once : (r : ℕ) → count_by (is_enter_of r) h ≤ 1
  -- nobody is dispatched twice
  pub dispatched_once : (r : ℕ) → count_by (is_dispatch_of r) h ≤ 1
  -- who waits stands in its queue once
  pub stands_once : (q : ℕ) → AllPairs (λ r later. r ≢ later) (waiting h q)
  -- and in no other queue
  pub stands_in_one : (p q r : ℕ) → Contains (waiting h p) r → Contains (waiting h q) r → p ≡ q
  -- no queue is above its limit
  pub within_limit : (q : ℕ) → length (waiting h q) ≤ limit

-- what became of each request in a legal history
pub record AreStatuses (h : List Event) : Type 0 where
  pub away : (r : ℕ) → (status h r ≡ status_is.Away) ↔ (has_arrived h r ≡ false)
  pub waits : (r : ℕ) → (status h r ≡ status_is.Waits) ↔ ((q : ℕ) × Contains (waiting h q) r)
  pub dispatched : (r : ℕ) → (status h r ≡ status_is.Dispatched) ↔ ((q : ℕ) × Contains h (Dispatch r q))
  pub struck : (r : ℕ) → (status h r ≡ status_is.Struck) ↔ ((q : ℕ) × Contains h (Strike r q))
  pub full : (r : ℕ) → (status h r ≡ status_is.Full) ↔ ((q : ℕ) × Contains h (Full r q))
  -- who entered waits, was dispatched or was struck
  pub entered : (r : ℕ) → (has_entered (status h r) ≡ true) ↔ ((q : ℕ) × Contains h (Enter r q))

-- the numbers of a legal history
pub record AreCounted (h : List Event) : Type 0 where
  -- of one queue: who entered it was dispatched from it, was struck out of it, or waits in it
  pub of_queue : (q : ℕ) → count_by (is_enter_into q) h ≡ count_by (is_dispatch_from q) h + count_by (is_strike_from q) h + length (waiting h q)
  -- of all queues: entered = dispatched + struck + waiting
  pub of_queues : (n : ℕ) → NamesQueues n h → (stats_of n h).entered ≡ (stats_of n h).dispatched + (stats_of n h).struck + (stats_of n h).waiting
  -- at most two events a request
  pub of_request : (r : ℕ) → count_by (is_event_of r) h ≤ 2
  pub of_requests : (n : ℕ) → NamesRequests n h → length h ≤ 2 * n
  -- who waits is one of the requests
  pub waits_named : (n : ℕ) → NamesRequests n h → (q r : ℕ) → Contains (waiting h q) r → r < n

-- what an event that may follow a legal history finds, and makes
pub record Follows (h : List Event) (e : Event) : Type 0 where
  pub found : status h (request_of e) ≡ finds e
  -- its queue is changed so, and no other
  pub queues : (q : ℕ) → waiting (e ∷ h) q ≡ put (waiting h) (queue_of e) (changed e (waiting h (queue_of e))) q
