-- Virtual time, the choice of a queue, and the service of a queue.
use Rattle.std.specs.Prelude.{◌≡◌, ◌≢◌, ℕ, ◌+◌, ◌-◌, ◌%◌, ◌<◌, ◌≤◌, ◌==◌, if◌then◌else◌, max, List, [], ◌∷◌, slice_index, drop}
use Rattle.apf_history.specs.declared.events.Event.{Event}
use Rattle.apf_history.specs.declared.events.Event.TheVariants.{Enter, Dispatch}
use Rattle.apf_history.specs.Numbered.{put, width}
use Rattle.apf_history.specs.History.{waiting, IsLegal}

-- the numbers of virtual time
pub record Numbers : Type 0 where
  -- each queue's own virtual time: where the service of its next request starts
  pub next : ℕ → ℕ
  -- the level's virtual time, R
  pub virtual_time : ℕ
  -- the queue that was dispatched from last; at first the last queue
  pub robin : ℕ

-- the numbers of a level with this many queues before anything happened
abbrev pub opening_numbers : ℕ → Numbers
opening_numbers queues = record { next = λ _. 0; virtual_time = 0; robin = queues - 1 }

-- q, which held these requests, is entered: a queue that stops being empty starts no earlier than the level's virtual time
abbrev pub after_enter : ℕ → List ℕ → Numbers → Numbers
after_enter q [] v = record v { next = put v.next q (max (v.next q) v.virtual_time) }
after_enter q (_ ∷ _) v = v

-- a request of this width is dispatched from q
abbrev pub after_dispatch : ℕ → ℕ → Numbers → Numbers
after_dispatch q k v = record { next = put v.next q (v.next q + k); virtual_time = max v.virtual_time (v.next q); robin = q }

-- an event comes after a history
abbrev pub after_event : List ℕ → List Event → Event → Numbers → Numbers
after_event widths history (Enter request queue) before = after_enter queue (waiting history queue) before
after_event widths history (Dispatch request queue) before = after_dispatch queue (width widths request) before
after_event widths history _ before = before

-- the numbers of a history
abbrev pub numbers : ℕ → List ℕ → List Event → Numbers
numbers queues widths [] = opening_numbers queues
numbers queues widths (e ∷ h) = after_event widths h e (numbers queues widths h)

-- the virtual finish of a queue that is not empty: its next and the width of its first request
abbrev pub finish : List ℕ → (ℕ → List ℕ) → Numbers → ℕ → ℕ
finish widths queue v q = v.next q + width widths (slice_index (queue q) 0)

-- how far q is when counting round from the queue after the robin
abbrev pub steps_round : ℕ → ℕ → ℕ → ℕ
steps_round queues robin q = (q + queues - (robin + 1)) % queues

-- q is the choice: not empty, of least finish, and the one reached first counting round from the queue after the robin
pub record IsChoice (queues : ℕ) (widths : List ℕ) (queue : ℕ → List ℕ) (v : Numbers) (q : ℕ) : Type 0 where
  pub is_queue : q < queues
  pub is_waited_in : queue q ≢ []
  pub has_least_finish : (p : ℕ) → p < queues → queue p ≢ [] → finish widths queue v q ≤ finish widths queue v p
  pub is_reached_first :
      (p : ℕ) → p < queues → queue p ≢ [] → finish widths queue v p ≡ finish widths queue v q
      → steps_round queues v.robin q ≤ steps_round queues v.robin p

-- each Dispatch names the choice for what came before it
abbrev pub DispatchesChoices : ℕ → List ℕ → List Event → Type 0
DispatchesChoices queues widths [] = Unit {0}
DispatchesChoices queues widths (Dispatch r q ∷ h) = IsChoice queues widths (waiting h) (numbers queues widths h) q × DispatchesChoices queues widths h
DispatchesChoices queues widths (_ ∷ h) = DispatchesChoices queues widths h

-- a fair history: legal, and each Dispatch names the choice
abbrev pub IsFair : ℕ → List ℕ → (ℕ → List ℕ) → ℕ → List Event → Type 0
IsFair queues widths hands limit h = IsLegal hands limit h × DispatchesChoices queues widths h

-- the service of q in a stretch of a history: the sum of the widths dispatched from it
abbrev pub service : List ℕ → List Event → ℕ → ℕ
service widths [] q = 0
service widths (Dispatch r p ∷ h) q = if p == q then service widths h q + width widths r else service widths h q
service widths (_ ∷ h) q = service widths h q

-- q is never empty in the newest n events of a history: at each place of that stretch, both ends included, someone waits in it
abbrev pub IsNeverEmpty : List Event → ℕ → ℕ → Type 0
IsNeverEmpty h n q = (k : ℕ) → k ≤ n → waiting (drop k h) q ≢ []

-- the largest width of the requests
abbrev pub widest : List ℕ → ℕ
widest [] = 0
widest (k ∷ ks) = max k (widest ks)

-- two numbers differ by at most this much
abbrev pub DifferAtMost : ℕ → ℕ → ℕ → Type 0
DifferAtMost most a b = (a ≤ b + most) × (b ≤ a + most)
