-- The queues of a level whose slots are used again, and the history that they are of. A request's hand and its cost come with its arrival.
use Rattle.std.specs.Prelude.{◌≡◌, ℕ, ◌+◌, ◌*◌, ◌^◌, ◌<◌, ◌≤◌, ◌==◌, not, if◌then◌else◌, Bool, false, List, [], ◌∷◌, length, sum_by, map, slice_get, slice_index, slice_index_or, slice_set, count_by, Contains, Option, Some, None}
use Rattle.apf_words.specs.Limits.{max_cost}
use Rattle.apf_flow.specs.Sizes.{Sizes}
use Rattle.apf_flow.specs.Deal.{hand_of}
use Rattle.apf_gate.specs.Slots.{slot_of}
use Rattle.apf_gate.specs.declared.record.Asked.{Asked}
use Rattle.apf_gate.specs.declared.record.Entry.{Entry}
use Rattle.apf_gate.specs.Traces.{asked_in}
use Rattle.apf_history.specs.declared.events.Event.TheVariants.{Enter, Full, Dispatch, Strike}
use Rattle.apf_history.specs.declared.events.Event.{Event}
use Rattle.apf_history.specs.declared.events.Charge.{Charge}
use Rattle.apf_history.specs.declared.events.LogEntry.{LogEntry}
use Rattle.apf_history.specs.declared.events.LogEntry.TheVariants.{Happens, Spends, Settles}
use Rattle.apf_model.specs.World.{put, width}
use Rattle.apf_model.specs.History.{NamesRequests, NamesQueues, has_arrived, waiting, IsShortest, IsLegal}
use Rattle.apf_model.specs.Fair.{Numbers, IsChoice}
use Rattle.apf_model.specs.Charged.{events, charged_numbers, charge_of, log_of, FollowsChoices}
use Rattle.apf_model.specs.Outcome.{is_dispatch}
use Rattle.apf_queue.specs.declared.choice.Chosen.{Chosen}
use Rattle.apf_book.specs.declared.settling.Settling.{Settling}
use Rattle.apf_book.specs.declared.settling.Settling.TheVariants.{Never, Told}
use Rattle.apf_queue.specs.View.{QueuesView, queue_count, queue_in, numbers_in, settle_time, max_charge, MaySettle}

-- the whole history of a level, and what its requests asked for
pub record LifeView : Type 0 where
  -- the newest event stands first
  pub history : List Event
  -- the same, with what requests that executed were charged in place of their costs
  pub log : List LogEntry
  -- of each number that a request can ever have: what its dispatch is charged, and its hand of queues. Both are as the request said once it arrived
  pub costs : List ℕ
  pub hands : ℕ → List ℕ
  -- how many queues there are, and how many requests a queue may hold
  pub queues : ℕ
  pub limit : ℕ

-- what is stored: the queues of slots, and the number of the request that holds each slot that waits
pub record LifeState : Type 0 where
  pub queues : QueuesView
  pub holders : List ℕ
  -- how many queues a hand has
  pub hand : ℕ
  -- whether it is known beforehand what each request asks for, as of a batch
  pub known : Bool
  -- of each slot: what a queue is charged for the request that holds it, while that executes and was dispatched from the queue. Of no slot, where nothing is settled
  pub running : List (Option Charge)

-- of how many of this many slots it is kept what a queue is charged
abbrev pub places_of : Settling → ℕ → ℕ
places_of Never slots = 0
places_of Told slots = slots

-- whether what requests take is settled
abbrev pub settles_in : LifeState → Bool
settles_in s = not (length s.running == 0)

-- what is kept of r: what a queue is charged for it. None if another request holds its slot
abbrev pub charge_in : LifeState → ℕ → Option Charge
charge_in s r = if slice_index s.holders (slot_of r) == r then slice_index_or s.running (slot_of r) None else None

-- how many requests wait in all queues
abbrev pub how_many : QueuesView → ℕ
how_many s = sum_by (λ (rs : List ℕ). length rs) s.queues

-- the requests that hold these slots
abbrev pub holding : List ℕ → List ℕ → List ℕ
holding holders slots = map (λ slot. slice_index holders slot) slots

-- the request that entered last of those of a slot, and 0 if none did
abbrev pub holder_by : List Event → ℕ → ℕ
holder_by [] slot = 0
holder_by (Enter r q ∷ h) slot = if slot_of r == slot then r else holder_by h slot
holder_by (_ ∷ h) slot = holder_by h slot

-- no number is above this
pub record AreWithin (most : ℕ) (v : Numbers) : Type 0 where
  pub next : (q : ℕ) → v.next q ≤ most
  pub virtual_time : v.virtual_time ≤ most

-- how large the numbers of a history can be
abbrev pub life_most : List Event → ℕ
life_most h = count_by is_dispatch h * max_cost + (settle_time + max_charge)

-- the queues are those of this history
pub record IsLifeOf (v : LifeView) (s : LifeState) : Type 0 where
  -- each queue has the slots of those that wait
  pub queue_is : (q : ℕ) → holding s.holders (queue_in s.queues q) ≡ waiting v.history q
  pub in_slots : (q slot : ℕ) → Contains (queue_in s.queues q) slot → slot_of (slice_index s.holders slot) ≡ slot
  pub in_place : (q slot : ℕ) → Contains (queue_in s.queues q) slot → slot < length s.holders
  -- the history is legal, and each entry of its log may follow those before it
  pub fair : IsLegal v.hands v.limit v.history × FollowsChoices v.queues v.costs v.log
  pub events_are : events v.log ≡ v.history
  pub numbers_are : numbers_in s.queues ≡ charged_numbers v.queues v.costs v.log
  pub within : AreWithin (life_most v.history) (numbers_in s.queues)
  pub charged : (q slot : ℕ) → Contains (queue_in s.queues q) slot → width s.queues.costs slot ≡ width v.costs (slice_index s.holders slot)
  pub deck : queue_count s.queues ≡ v.queues
  pub limit : s.queues.length_limit ≡ v.limit
  pub one_holder_each : length s.holders ≡ length s.queues.costs
  pub names_queues : NamesQueues v.queues v.history
  pub names_requests : NamesRequests (length v.costs) v.history
  pub low : (r : ℕ) → width v.costs r ≤ max_cost
  -- how many numbers there are
  pub few : length v.costs ≤ 2 ^ 76
  -- each slot is held by the request that entered last of its requests
  pub holders_are : (slot : ℕ) → slot < length s.holders → slice_index s.holders slot ≡ holder_by v.history slot
  -- what is kept of a request that holds its slot is what a queue is charged for it, by the log
  pub running : (r : ℕ) → slot_of r < length s.running → slice_index s.holders (slot_of r) ≡ r → slice_index_or s.running (slot_of r) None ≡ charge_of v.costs v.log r
  -- where nothing is settled, the log is the history
  pub unsettled : settles_in s ≡ false → v.log ≡ log_of v.history

-- the request r asks for this: its hand is dealt, and its dispatch is charged this cost
abbrev pub asked : LifeView → ℕ → List ℕ → ℕ → LifeView
asked v r hand cost = record v { costs = slice_set v.costs r cost; hands = put v.hands r hand }

-- the request r asks for this hand and this cost, by the steps of a trace
pub record IsAskedBy (sizes : Sizes) (trace : List Entry) (hand : List ℕ) (cost r : ℕ) : Type 0 where
  pub ask : Asked
  pub said : asked_in trace r ≡ Some ask
  pub hand_is : hand ≡ hand_of sizes ask.hash
  pub cost_is : cost ≡ ask.cost

-- each request that arrived asked for its hand and its cost, by the steps of a trace
abbrev pub AreAsked : Sizes → List Entry → List ℕ → (ℕ → List ℕ) → List Event → Type 0
AreAsked sizes trace costs hands [] = Unit {0}
AreAsked sizes trace costs hands (Enter r q ∷ h) = IsAskedBy sizes trace (hands r) (width costs r) r × AreAsked sizes trace costs hands h
AreAsked sizes trace costs hands (Full r q ∷ h) = IsAskedBy sizes trace (hands r) (width costs r) r × AreAsked sizes trace costs hands h
AreAsked sizes trace costs hands (Dispatch r q ∷ h) = AreAsked sizes trace costs hands h
AreAsked sizes trace costs hands (Strike r q ∷ h) = AreAsked sizes trace costs hands h

-- the sizes of the dealer
abbrev pub sizes_in : LifeView → LifeState → Sizes
sizes_in v s = record { deck = v.queues; hand = s.hand }

abbrev pub sizes_of : LifeState → Sizes
sizes_of s = record { deck = queue_count s.queues; hand = s.hand }

-- the holders of slots are as many, the hands as large, and as much is known beforehand
abbrev pub SameSlots : LifeState → LifeState → Type 0
SameSlots s s' = (length s'.holders ≡ length s.holders) × (s'.hand ≡ s.hand) × (s'.known ≡ s.known)

-- with one event more
abbrev pub then_came : LifeView → Event → LifeView
then_came v e = record v { history = e ∷ v.history; log = Happens e ∷ v.log }

-- r, which executes from q, ran, and is charged this in place of what it was
abbrev pub then_settled : LifeView → ℕ → ℕ → ℕ → ℕ → LifeView
then_settled v r q old new = record v { log = Settles r q old new ∷ v.log }

-- r, which executes from q, has run so long, and is charged this in place of what it was
abbrev pub then_spent : LifeView → ℕ → ℕ → ℕ → ℕ → LifeView
then_spent v r q old new = record v { log = Spends r q old new ∷ v.log }

-- r, with this hand, neither entered nor was refused as full, and q is the shortest queue of the hand
pub record Comes (v : LifeView) (r : ℕ) (hand : List ℕ) (q : ℕ) : Type 0 where
  pub is_request : r < length v.costs
  pub is_queue : q < v.queues
  pub is_new : has_arrived v.history r ≡ false
  pub is_shortest : IsShortest (waiting v.history) hand q

-- what is dispatched next, by the history: the choice, and in its first slot the first request, with that one's cost
pub record IsNextIn (v : LifeView) (s : LifeState) (c : Chosen) : Type 0 where
  pub is_choice : IsChoice v.queues v.costs (waiting v.history) (charged_numbers v.queues v.costs v.log) c.queue
  pub is_first : slice_get (waiting v.history c.queue) 0 ≡ Some (slice_index s.holders c.request)
  pub cost_is : c.cost ≡ width v.costs (slice_index s.holders c.request)

-- nothing happened yet: this many queues, each with this length limit
pub record IsOpening (v : LifeView) (queues limit : ℕ) : Type 0 where
  pub nothing : v.history ≡ []
  pub no_log : v.log ≡ []
  pub queues_are : v.queues ≡ queues
  pub limit_is : v.limit ≡ limit
  pub low : (r : ℕ) → width v.costs r ≤ max_cost
  pub few : length v.costs ≤ 2 ^ 76

-- a queue was charged so much for r, by each log, and is charged m in place of it
pub record SettlesOne (s : LifeState) (r m : ℕ) (s' : LifeState) : Type 0 where
  pub charge : Charge
  pub was : charge_in s r ≡ Some charge
  pub by_log : (v : LifeView) → IsLifeOf v s → charge_of v.costs v.log r ≡ Some charge
  pub settles : (v : LifeView) → IsLifeOf v s → IsLifeOf (then_settled v r charge.queue charge.amount m) s'

-- a queue was charged less for r, by each log, and is charged m in place of it, while r executes still
pub record SpendsOne (s : LifeState) (r m : ℕ) (s' : LifeState) : Type 0 where
  pub charge : Charge
  pub was : charge_in s r ≡ Some charge
  pub by_log : (v : LifeView) → IsLifeOf v s → charge_of v.costs v.log r ≡ Some charge
  pub more : charge.amount < m
  pub spends : (v : LifeView) → IsLifeOf v s → IsLifeOf (then_spent v r charge.queue charge.amount m) s'

-- nothing is kept of r; or the number of the queue that is charged for it is so large that it is not settled any more
abbrev pub CannotSettle : LifeState → ℕ → Type 0
CannotSettle s r = (charge : Charge) → charge_in s r ≡ Some charge → ¬ MaySettle s.queues charge.queue

-- the same; or its queue is charged so much already
abbrev pub CannotSpend : LifeState → ℕ → ℕ → Type 0
CannotSpend s r m = (charge : Charge) → charge_in s r ≡ Some charge → charge.amount < m → ¬ MaySettle s.queues charge.queue
