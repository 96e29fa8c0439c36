-- The queues and the log, as contracts see them.
use Rattle.std.specs.Prelude.{◌≡◌, ◌≢◌, ℕ, ◌*◌, ◌≤◌, List, [], length, slice_get, slice_index, Some}
use Rattle.apf_words.specs.Limits.{max_requests}
use Rattle.apf_flow.specs.Sizes.{Sizes}
use Rattle.apf_flow.specs.Deal.{hand_of}
use Rattle.apf_history.specs.declared.events.Event.{Event}
use Rattle.apf_model.specs.World.{width}
use Rattle.apf_model.specs.Schedule.{AreCosts}
use Rattle.apf_model.specs.History.{NamesRequests, NamesQueues, waiting}
use Rattle.apf_model.specs.Fair.{numbers, finish, widest, IsChoice, IsFair}
use Rattle.apf_queue.specs.declared.choice.Chosen.{Chosen}

-- the log of a level, and what its queues were made of
pub record LedgerView : Type 0 where
  -- the log as a history: the newest event stands first
  pub history : List Event
  -- what the dispatch of each request is charged
  pub costs : List ℕ
  pub hashes : List ℕ
  -- how many queues there are, and how many a hand has
  pub sizes : Sizes
  -- how many requests a queue may hold
  pub limit : ℕ

-- a request's hand of queues: the deal of its hash
abbrev pub hand_in : LedgerView → ℕ → List ℕ
hand_in v r = hand_of v.sizes (slice_index v.hashes r)

-- the log is legal, and each dispatch names the choice
abbrev pub HasFairLog : LedgerView → Type 0
HasFairLog v = IsFair v.sizes.deck v.costs (hand_in v) v.limit v.history

-- the log is fair, names requests and queues of the level, and there are at most this many requests, of costs in their range
pub record IsLogOf (v : LedgerView) : Type 0 where
  pub fair : HasFairLog v
  pub names_requests : NamesRequests (length v.costs) v.history
  pub names_queues : NamesQueues v.sizes.deck v.history
  pub costs : AreCosts v.costs
  pub few : length v.costs ≤ max_requests

-- nothing waits
abbrev pub NothingWaits : LedgerView → Type 0
NothingWaits v = (q : ℕ) → waiting v.history q ≡ []

-- what is dispatched next, by the log: the choice, its first request, and that one's cost
pub record IsNext (v : LedgerView) (c : Chosen) : Type 0 where
  pub is_choice : IsChoice v.sizes.deck v.costs (waiting v.history) (numbers v.sizes.deck v.costs v.history) c.queue
  pub is_first : slice_get (waiting v.history c.queue) 0 ≡ Some c.request
  pub cost_is : c.cost ≡ width v.costs c.request

-- no number of virtual time and no finish is above 10,000 times the largest cost: where the widths are the costs, above 200,000,000
pub record AreSmall (v : LedgerView) : Type 0 where
  pub next : (q : ℕ) → (numbers v.sizes.deck v.costs v.history).next q ≤ max_requests * widest v.costs
  pub virtual_time : (numbers v.sizes.deck v.costs v.history).virtual_time ≤ max_requests * widest v.costs
  pub finish : (q : ℕ) → waiting v.history q ≢ [] → finish v.costs (waiting v.history) (numbers v.sizes.deck v.costs v.history) q ≤ max_requests * widest v.costs
