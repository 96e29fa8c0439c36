-- The queues of a level, as contracts see them.
use Rattle.std.specs.Prelude.{◌≡◌, ℕ, ◌-◌, ◌^◌, ◌<◌, ◌≤◌, List, [], ◌∷◌, ◌++◌, length, drop, slice_index, slice_index_or, slice_get, slice_set, replicate, Contains, Some}
use Rattle.apf_words.specs.Limits.{max_queues, max_queue_length, max_requests}
use Rattle.apf_model.specs.World.{width}
use Rattle.apf_model.specs.Fair.{Numbers, after_enter, after_dispatch, IsChoice}
use Rattle.apf_model.specs.Charged.{after_charge}
use Rattle.apf_queue.specs.declared.choice.Chosen.{Chosen}
use Rattle.apf_queue.specs.RingsView.{without}

-- what contracts see of the queues of a level
pub record QueuesView : Type 0 where
  -- the requests that wait in each queue, in the order of entry
  pub queues : List (List ℕ)
  -- what the dispatch of each request is charged: the cost of its newest push, and 0 before its first
  pub costs : List ℕ
  -- the number next of each queue
  pub next : List ℕ
  -- the level's virtual time, R
  pub virtual_time : ℕ
  -- the queue that was dispatched from last
  pub robin : ℕ
  -- how many requests a queue may hold
  pub length_limit : ℕ

-- the shapes that queues may have: 1 to 1,024 queues, a length limit of 1 to 10,000, at most 10,000 requests
pub record IsQueueShape (queues length_limit requests : ℕ) : Type 0 where
  pub has_queues : 1 ≤ queues
  pub few_queues : queues ≤ max_queues
  pub has_room : 1 ≤ length_limit
  pub little_room : length_limit ≤ max_queue_length
  pub few_requests : requests ≤ max_requests

-- queues in which nothing ever was
abbrev pub opening_view : ℕ → ℕ → ℕ → QueuesView
opening_view queues length_limit requests =
    record {
      queues = replicate queues [];
      costs = replicate requests 0;
      next = replicate queues 0;
      virtual_time = 0;
      robin = queues - 1;
      length_limit = length_limit;
    }

-- how many queues there are
abbrev pub queue_count : QueuesView → ℕ
queue_count s = length s.queues

-- how many requests there are
abbrev pub request_count : QueuesView → ℕ
request_count s = length s.costs

-- the requests that wait in queue q, in the order of entry
abbrev pub queue_in : QueuesView → ℕ → List ℕ
queue_in s q = slice_index_or s.queues q []

-- the numbers of virtual time
abbrev pub numbers_in : QueuesView → Numbers
numbers_in s = record { next = λ q. slice_index s.next q; virtual_time = s.virtual_time; robin = s.robin }

-- r stands in no queue
abbrev pub StandsNowhere : QueuesView → ℕ → Type 0
StandsNowhere s r = (q : ℕ) → ¬ Contains (queue_in s q) r

-- nothing waits
abbrev pub NothingWaits : QueuesView → Type 0
NothingWaits s = (q : ℕ) → q < queue_count s → queue_in s q ≡ []

-- r, of this cost, enters q: it is put at the end
pub record Enters (old new : QueuesView) (q r k : ℕ) : Type 0 where
  pub queues : new.queues ≡ slice_set old.queues q (queue_in old q ++ r ∷ [])
  pub costs : new.costs ≡ slice_set old.costs r k
  pub numbers : numbers_in new ≡ after_enter q (queue_in old q) (numbers_in old)
  pub length_limit : new.length_limit ≡ old.length_limit

-- r is taken out of its place in q. The numbers stay
abbrev pub struck : QueuesView → ℕ → ℕ → QueuesView
struck s q r = record s { queues = slice_set s.queues q (without r (queue_in s q)) }

-- the first request of q, of this cost, is dispatched
pub record Dispatches (old new : QueuesView) (q k : ℕ) : Type 0 where
  pub queues : new.queues ≡ slice_set old.queues q (drop 1 (queue_in old q))
  pub costs : new.costs ≡ old.costs
  pub numbers : numbers_in new ≡ after_dispatch q k (numbers_in old)
  pub length_limit : new.length_limit ≡ old.length_limit

-- q is charged m in place of the k that it was charged for a request. Nothing else changes
pub record Settles (old new : QueuesView) (q k m : ℕ) : Type 0 where
  pub queues : new.queues ≡ old.queues
  pub costs : new.costs ≡ old.costs
  pub numbers : numbers_in new ≡ after_charge q k m (numbers_in old)
  pub length_limit : new.length_limit ≡ old.length_limit

-- the first request of queue q, with its cost
pub record IsHead (s : QueuesView) (q : ℕ) (c : Chosen) : Type 0 where
  pub queue_is : c.queue ≡ q
  pub is_first : slice_get (queue_in s q) 0 ≡ Some c.request
  pub cost_is : c.cost ≡ width s.costs c.request

-- this is what is dispatched next: the choice, its first request and that one's cost
pub record IsChosen (s : QueuesView) (c : Chosen) : Type 0 where
  pub is_choice : IsChoice (queue_count s) s.costs (queue_in s) (numbers_in s) c.queue
  pub is_head : IsHead s c.queue c

-- up to this, the number of a queue may grow: far more than 2^46 times all requests that can ever be numbered, and far less than 2^128
abbrev pub latest_time : ℕ
latest_time = 2 ^ 127

-- virtual time may go on in queue q
abbrev pub HasTime : QueuesView → ℕ → Type 0
HasTime s q = slice_index s.next q ≤ latest_time

-- the most that a request may be charged: its seat-time in microseconds, up to two years of a seat
abbrev pub max_charge : ℕ
max_charge = 2 ^ 46

-- up to this, the number of a queue may be when a request of it is settled: so far below the latest time that all dispatches that there can be do not reach that
abbrev pub settle_time : ℕ
settle_time = 2 ^ 126

-- a request of queue q may be settled
abbrev pub MaySettle : QueuesView → ℕ → Type 0
MaySettle s q = slice_index s.next q ≤ settle_time
