-- The book of a level whose slots are used again, as contracts see it.
use Rattle.std.specs.Prelude.{◌≡◌, ◌≢◌, ◌⊎◌, ℕ, ◌^◌, ◌<◌, ◌++◌, Bool, true, false, List, [], length, slice_get, count_by, Contains, Option, Some, None}
use Rattle.apf_history.specs.declared.events.Charge.{Charge}
use Rattle.apf_history.specs.declared.events.Event.{Event}
use Rattle.apf_history.specs.declared.events.Event.TheVariants.{Enter, Full, Dispatch, Strike}
use Rattle.apf_model.specs.History.{waiting}
use Rattle.apf_model.specs.Outcome.{is_dispatch}
use Rattle.apf_model.specs.Fair.{IsChoice}
use Rattle.apf_model.specs.Charged.{charged_numbers, charge_of, log_of}
use Rattle.apf_model.specs.declared.response.Response.TheVariants.{Reject}
use Rattle.apf_model.specs.declared.moves.Stage.TheVariants.{Stands}
use Rattle.apf_gate.specs.declared.record.Knowledge.{Knowledge}
use Rattle.apf_gate.specs.Records.{told_of}
use Rattle.apf_gate.specs.Traces.{world_of}
use Rattle.apf_gate.specs.Tokens.{PassToken, DeskToken}
use Rattle.apf_book.specs.declared.arrived.Arrived.{Arrived}
use Rattle.apf_book.specs.declared.arrived.Arrived.TheVariants as arrived
use Rattle.apf_book.specs.declared.serving.Served.{Served}
use Rattle.apf_book.specs.declared.serving.Served.TheVariants as served
use Rattle.apf_book.specs.Life.{LifeView, LifeState, IsLifeOf, AreAsked, sizes_in, charge_in, asked, then_came, then_settled, then_spent, CannotSettle, CannotSpend}
use Rattle.apf_book.specs.RecentEvents.{RecentEventsView, AreRecentEventsOf}
use Rattle.apf_book.specs.Agreeing.{IsDeskOf}
use Rattle.apf_book.specs.Moves.{LastFound}
use Rattle.apf_book.specs.Servings.{AreServings}

-- the Desk, the queues of slots, and the notes. The history is stored nowhere
pub record LifeBookView : Type 0 where
  pub desk : DeskToken
  pub queues : LifeState
  pub notes : RecentEventsView

-- the book is of this history: its queues and its notes are, and the Desk did what the history says
pub record IsLifeKept (v : LifeView) (b : LifeBookView) : Type 0 where
  pub of_life : IsLifeOf v b.queues
  pub agrees : IsDeskOf v.history b.desk.desk
  pub notes : AreRecentEventsOf v.history b.notes
  -- each number that a request can have has its cost, and each slot its holder
  pub one_cost_each : length v.costs ≡ length b.desk.desk.knows.shape.widths
  pub one_holder_each : length b.queues.holders ≡ b.desk.desk.knows.shape.slots
  -- at a gate without queues nothing happens to them
  pub no_queues : b.desk.desk.knows.shape.response ≡ Reject → v.history ≡ []
  -- unless that is known beforehand, each request that arrived has the hand and the cost that it asked for, by what the Desk's steps found
  pub asks : b.queues.known ≡ false → AreAsked (sizes_in v b.queues) b.desk.desk.knows.trace v.costs v.hands v.history

-- there is a history that the book is of
pub record IsLived (b : LifeBookView) : Type 0 where
  pub view : LifeView
  pub kept : IsLifeKept view b

-- with these events, the newest first, after what the history has
abbrev pub then_came_all : List Event → LifeView → LifeView
then_came_all events v = record v { history = events ++ v.history; log = log_of events ++ v.log }

-- r stands first in q, and is dispatched next, by the history
pub record IsFirst (v : LifeView) (r q : ℕ) : Type 0 where
  pub is_choice : IsChoice v.queues v.costs (waiting v.history) (charged_numbers v.queues v.costs v.log) q
  pub is_first : slice_get (waiting v.history q) 0 ≡ Some r

-- nothing waits
abbrev pub NobodyWaits : LifeView → Type 0
NobodyWaits v = (q : ℕ) → waiting v.history q ≡ []

-- what the arrival of r makes of the history, with this hand and this cost
abbrev pub arrived_in : LifeView → ℕ → List ℕ → ℕ → Arrived → LifeView
arrived_in v r hand cost (arrived.Queued q) = then_came (asked v r hand cost) (Enter r q)
arrived_in v r hand cost (arrived.Full q) = then_came (asked v r hand cost) (Full r q)
arrived_in v r hand cost arrived.Closed = v
arrived_in v r hand cost arrived.Cancelled = v
arrived_in v r hand cost arrived.Again = v

-- the Desk's last two steps, in this call, did not find the request that is dispatched next cancelled, and found a level word that it does not fit by its width
pub record NextMisses (v : LifeView) (known known' : Knowledge) : Type 0 where
  pub request : ℕ
  pub queue : ℕ
  pub is_next : IsFirst v request queue
  pub misses : LastFound known known.shape.widths request known'

-- where serving stops: nothing waits, or who is dispatched next does not fit
abbrev pub StopsAt : LifeView → Knowledge → Knowledge → Type 0
StopsAt v known known' = NobodyWaits v ⊎ NextMisses v known known'

-- what one turn made of a history that the book is of
abbrev pub TurnsLife : Option Served → LifeView → LifeBookView → LifeBookView → Type 0
TurnsLife None v b b' = IsLifeKept v b' × NobodyWaits v
TurnsLife (Some served.Dispatched) v b b' = (r q : ℕ) × IsLifeKept (then_came v (Dispatch r q)) b'
TurnsLife (Some served.Struck) v b b' = (r q : ℕ) × IsLifeKept (then_came v (Strike r q)) b'
TurnsLife (Some served.NoRoom) v b b' = IsLifeKept v b' × NextMisses v b.desk.desk.knows b'.desk.desk.knows
TurnsLife (Some served.Raced) v b b' = IsLifeKept v b'

-- of a history that the book is of: Dispatches and Strikes alone came, this many of them Dispatches, of fewer than 2^64 events that there ever were, and on return nothing waits or who is dispatched next did not fit
pub record ServesLife (v : LifeView) (b : LifeBookView) (count : ℕ) (b' : LifeBookView) : Type 0 where
  pub events : List Event
  pub kept : IsLifeKept (then_came_all events v) b'
  pub servings : AreServings events
  pub dispatches : length (events ++ v.history) < 2 ^ 64 → count_by is_dispatch events ≡ count
  pub stops : StopsAt (then_came_all events v) b.desk.desk.knows b'.desk.desk.knows

-- of a history that the book is of: the request waited, and its Strike came; or the history stays, and a request whose decision the Desk knew does not wait
abbrev pub StrikesLife : LifeView → LifeBookView → ℕ → Bool → LifeBookView → Type 0
StrikesLife v b r true b' = (q : ℕ) × Contains (waiting v.history q) r × IsLifeKept (then_came v (Strike r q)) b'
StrikesLife v b r false b' = IsLifeKept v b' × (told_of b.desk.desk.knows.told r ≢ None → (q : ℕ) → ¬ Contains (waiting v.history q) r)

-- the request of the Pass executes: by the steps that its Pass knows, it holds its seats
abbrev pub HoldsSeats : PassToken → Type 0
HoldsSeats token = (world_of token.pass.knows.shape token.pass.knows.trace).stage token.pass.number ≡ Stands

-- of a log that the book is of: what a queue was charged for r is settled with this; or nothing is kept of r, or it can be settled no more, and the book stays as it was
abbrev pub SettlesLife : LifeView → LifeBookView → ℕ → ℕ → Bool → LifeBookView → Type 0
SettlesLife v b r m true b' = (c : Charge) × (charge_in b.queues r ≡ Some c) × (charge_of v.costs v.log r ≡ Some c) × IsLifeKept (then_settled v r c.queue c.amount m) b'
SettlesLife v b r m false b' = (b' ≡ b) × CannotSettle b.queues r

-- of a log that the book is of: what a queue was charged for r is less than this, and becomes this; or nothing is kept of r, it is no less, or it can be changed no more, and the book stays as it was
abbrev pub SpendsLife : LifeView → LifeBookView → ℕ → ℕ → Bool → LifeBookView → Type 0
SpendsLife v b r m true b' = (c : Charge) × (charge_in b.queues r ≡ Some c) × (charge_of v.costs v.log r ≡ Some c) × (c.amount < m) × IsLifeKept (then_spent v r c.queue c.amount m) b'
SpendsLife v b r m false b' = (b' ≡ b) × CannotSpend b.queues r m
