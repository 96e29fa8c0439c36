-- Which level it is, and which histories are its own.
use Rattle.std.specs.Prelude.{◌≡◌, ℕ, ◌≤◌, Bool, false, List, [], length}
use Rattle.apf_words.specs.Limits.{max_cost}
use Rattle.apf_flow.specs.Sizes.{Sizes}
use Rattle.apf_model.specs.declared.response.Response.TheVariants.{Reject}
use Rattle.apf_model.specs.World.{width}
use Rattle.apf_model.specs.History.{NamesRequests, NamesQueues, IsLegal}
use Rattle.apf_model.specs.Charged.{events, log_of, FollowsChoices}
use Rattle.apf_queue.specs.View.{queue_count}
use Rattle.apf_gate.specs.declared.record.Entry.{Entry}
use Rattle.apf_gate.specs.Gauges.{IsShape}
use Rattle.apf_gate.specs.Records.{new_desk}
use Rattle.apf_gate.specs.Tokens.{GateId, DeskToken, desk_gate}
use Rattle.apf_book.specs.Life.{LifeView, AreAsked, settles_in}
use Rattle.apf_book.specs.LifeBook.{LifeBookView}

-- its gate, how many queues there are and how many a hand has, how many requests a queue may hold, and whether what requests take is settled
pub record LifeId : Type 0 where
  pub gate : GateId
  pub sizes : Sizes
  pub queue_limit : ℕ
  pub settles : Bool

-- the gate is this level's, and its slots are used again
pub record IsLevelOf (k : LifeId) (gate : GateId) : Type 0 where
  pub same : gate ≡ k.gate
  pub shape : IsShape gate.shape

-- the book is this level's: its Desk is of the level's gate, and it has the level's queues
pub record IsBookOf (k : LifeId) (b : LifeBookView) : Type 0 where
  pub gate : desk_gate b.desk ≡ k.gate
  pub queues : queue_count b.queues.queues ≡ k.sizes.deck
  pub limit : b.queues.queues.length_limit ≡ k.queue_limit
  pub hand : b.queues.hand ≡ k.sizes.hand
  pub settles : settles_in b.queues ≡ k.settles
  -- what each request asks for is known by what the Desk's steps found alone
  pub known : b.queues.known ≡ false

-- the Desk is that of this level, which has no queues: it made no step
pub record IsIdleOf (k : LifeId) (d : DeskToken) : Type 0 where
  pub no_queues : k.gate.shape.response ≡ Reject
  pub gate : desk_gate d ≡ k.gate
  pub fresh : d.desk ≡ new_desk d.desk.knows.shape

-- the history is legal and fair by what the queues were charged, of requests of the level's gate and of the level's queues. No cost is above the largest. Each request that arrived has the hand and the cost that it asked for, by these steps
pub record IsHistoryOf (k : LifeId) (trace : List Entry) (v : LifeView) : Type 0 where
  pub fair : IsLegal v.hands v.limit v.history × FollowsChoices v.queues v.costs v.log
  pub events_are : events v.log ≡ v.history
  -- where nothing is settled, the log is the history
  pub unsettled : k.settles ≡ false → v.log ≡ log_of v.history
  pub names_requests : NamesRequests (length k.gate.shape.widths) v.history
  pub names_queues : NamesQueues v.queues v.history
  pub low : (r : ℕ) → width v.costs r ≤ max_cost
  pub queues_are : v.queues ≡ k.sizes.deck
  pub limit_is : v.limit ≡ k.queue_limit
  pub asks : AreAsked k.sizes trace v.costs v.hands v.history

-- nothing happened yet
abbrev pub nothing_yet : LifeId → LifeView
nothing_yet k = record { history = []; log = []; costs = []; hands = λ r. []; queues = k.sizes.deck; limit = k.queue_limit }
