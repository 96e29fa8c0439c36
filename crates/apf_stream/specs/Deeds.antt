-- What is done with a request, and what follows of it.
use Rattle.std.specs.Prelude.{◌≡◌, ◌≢◌, ℕ, ◌≤◌, List, [], ◌∷◌, slice_get, slice_set, Option, Some, None}
use Rattle.apf_words.specs.declared.decision.Decision.{Decision}
use Rattle.apf_words.specs.declared.decision.Decision.TheVariants.{Execute, Cancelled}
use Rattle.apf_flow.specs.Deal.{hand_of}
use Rattle.apf_gate.specs.declared.answers.Cancel.{Cancel}
use Rattle.apf_gate.specs.StationCalls.{TriesToCancel}
use Rattle.apf_gate.specs.Tokens.{PassToken}
use Rattle.apf_book.specs.declared.life_event.LifeEvent.{LifeEvent}
use Rattle.apf_book.specs.declared.life_event.LifeEvent.TheVariants as life
use Rattle.apf_book.specs.Life.{LifeView}
use Rattle.apf_book.specs.LifeBook.{IsLifeKept}
use Rattle.apf_charges.specs.Charging.{cost_for, charges_with}
use Rattle.apf_local.specs.declared.answer.Answer.{Answer}
use Rattle.apf_local.specs.declared.answer.Answer.TheVariants as answers
use Rattle.apf_local.specs.declared.answer.Place.{Place}
use Rattle.apf_local.specs.declared.answer.Settlement.{Settlement}
use Rattle.apf_local.specs.declared.answer.Place.TheVariants as places
use Rattle.apf_local.specs.Levels.{LocalView, SameLocal, GoesOn, IsArrival, IsFinish, SettlesSlot}
use Rattle.apf_local.specs.Owners.{Sets, Steps}
use Rattle.apf_local.specs.Tries.{IsReading, SlotsStay}
use Rattle.apf_calendar.specs.declared.calendar.Carried.{Carried}
use Rattle.apf_calendar.specs.declared.guest.Stay.TheVariants.{Waits, Holds}
use Rattle.apf_calendar.specs.Guests.{SlotsView, IsFree, NothingBy, CarriesOut, Starts, with_slot}
use Rattle.apf_stream.specs.declared.asked.Asked.{Asked}
use Rattle.apf_stream.specs.declared.asked.Hold.{Hold}
use Rattle.apf_stream.specs.declared.deed.Deed.{Deed}
use Rattle.apf_stream.specs.declared.deed.Deed.TheVariants.{Arrive, Finish, GiveUp, Read, SetLimit}
use Rattle.apf_stream.specs.declared.deed.NewLimit.{NewLimit}
use Rattle.apf_stream.specs.declared.ended.Ended.{Ended}
use Rattle.apf_stream.specs.States.{State, ask_of}

-- what became of a request that was given no seats
abbrev pub unserved : Hold → Decision → ℕ → Ended
unserved h decision at = record { hold = h; decision = decision; since = None; over_at = at }

-- what became of a request that has finished
abbrev pub served : Hold → ℕ → ℕ → Ended
served h since at = record { hold = h; decision = Execute; since = Some since; over_at = at }

-- the queue that a request entered by this event, if it entered one
abbrev pub queue_in : Option LifeEvent → Option ℕ
queue_in None = None
queue_in (Some (life.Enter t q)) = Some q
queue_in (Some (life.Full t q)) = None
queue_in (Some (life.Dispatch t q)) = None
queue_in (Some (life.Strike t q)) = None

-- what became of the slot's request by the answer to its arrival: it was given its seats, it waits, or it left, and that is told
abbrev pub FollowsAnswer : Answer → ℕ → Hold → SlotsView → SlotsView → List Ended → Type 0
FollowsAnswer answers.Run slot h v v' told = Starts v slot v' × (told ≡ [])
FollowsAnswer answers.Waits slot h v v' told = (v' ≡ v) × (told ≡ [])
FollowsAnswer (answers.Over decision) slot h v v' told = (v' ≡ with_slot v slot None) × (told ≡ unserved h decision v.time ∷ [])
FollowsAnswer answer slot h v v' told = ⊥

-- what became of it by where it is once it has read its decision
abbrev pub FollowsPlace : Place → ℕ → Hold → SlotsView → SlotsView → List Ended → Type 0
FollowsPlace places.Runs slot h v v' told = Starts v slot v' × (told ≡ [])
FollowsPlace places.Waits slot h v v' told = (v' ≡ v) × (told ≡ [])
FollowsPlace places.Free slot h v v' told = (v' ≡ with_slot v slot None) × (told ≡ unserved h Cancelled v.time ∷ [])
FollowsPlace (places.Fresh ask) slot h v v' told = ⊥

-- the same level, whose operator made no step. Dispatches and Strikes alone came to each of its histories
pub record Serves (l l' : LocalView) : Type 0 where
  pub same : SameLocal l l'
  pub operators : l'.owner.stations ≡ l.owner.stations
  pub history : (v : LifeView) → IsLifeKept v l.owner.book → GoesOn v l'.owner.book

-- the request of the slot, which waited, read its decision, and is where that says
pub record Reads (slot : ℕ) (place : Place) (s s' : State) (told : List Ended) : Type 0 where
  pub waited : slice_get s.level.places slot ≡ Some places.Waits
  pub reads : IsReading slot s.level place s'.level
  pub serves : Serves s.level s'.level
  pub hold : Hold
  pub noted : slice_get s.holds slot ≡ Some hold
  pub follows : FollowsPlace place slot hold s.slots s'.slots told
  pub holds : s'.holds ≡ s.holds
  pub charges : s'.charges ≡ s.charges

-- A request arrived in a free slot, when nothing else was due up to then. It was charged what its flow's requests took so far, or what it says. The level's call got this answer, and the event that names its queue.
pub record Arrives (slot : ℕ) (a : Asked) (s s' : State) (told : List Ended) : Type 0 where
  pub free : IsFree s.slots slot
  pub forward : s.slots.time ≤ a.times.arrives_at
  pub over : NothingBy s.slots a.times.arrives_at
  pub hold : Hold
  pub asked : hold.asked ≡ a
  pub cost : hold.cost ≡ cost_for s.charges a.hash a.width a.cost
  pub answer : Answer
  pub event : Option LifeEvent
  pub queue : hold.queue ≡ queue_in event
  pub call : IsArrival slot (ask_of hold) (hand_of s.level.sizes a.hash) s.level answer event s'.level
  pub same : SameLocal s.level s'.level
  pub operators : s'.level.owner.stations ≡ s.level.owner.stations
  pub follows : FollowsAnswer answer slot hold (record { time = a.times.arrives_at; patience = s.slots.patience; slots = slice_set s.slots.slots slot (Some (record { line = a.line; times = a.times; stay = Waits })) }) s'.slots told
  pub holds : s'.holds ≡ slice_set s.holds slot hold
  pub charges : s'.charges ≡ s.charges

-- The request of the slot, which executes, gave its seats back. What it took was settled before that, and its flow learned it. It is told.
pub record Returns (c : Carried) (since : ℕ) (s s' : State) (told : List Ended) : Type 0 where
  pub call : IsFinish c.slot s.level answers.Released s'.level
  pub settled : Option Settlement
  pub settles : SettlesSlot c.slot c.guest.times.runs_for settled s.level s'.level
  pub same : SameLocal s.level s'.level
  pub operators : s'.level.owner.stations ≡ s.level.owner.stations
  pub slots : s'.slots ≡ s.slots
  pub hold : Hold
  pub noted : slice_get s.holds c.slot ≡ Some hold
  pub told_is : told ≡ served hold since c.at ∷ []
  pub holds : s'.holds ≡ s.holds
  pub charges : s'.charges ≡ charges_with s.charges hold.asked.hash c.guest.times.runs_for

-- The operator cancelled the request of the slot, and made no other step. Then the request read that.
pub record Cancels (slot : ℕ) (s s' : State) (told : List Ended) : Type 0 where
  pub cancelled : LocalView
  pub answer : Cancel
  pub token : PassToken
  pub of_slot : slice_get s.level.owner.passes slot ≡ Some token
  pub cancels : Steps s.level.owner.stations cancelled.owner.stations (λ station station'. TriesToCancel station token.pass.number answer station')
  pub same : SameLocal s.level cancelled
  pub stays : SlotsStay s.level cancelled
  pub history : (v : LifeView) → IsLifeKept v s.level.owner.book → GoesOn v cancelled.owner.book
  pub place : Place
  pub read : Reads slot place (record { level = cancelled; slots = s.slots; holds = s.holds; charges = s.charges }) s' told
  pub over : place ≢ places.Waits

-- the same, with these slots
abbrev pub with_slots : State → SlotsView → State
with_slots s v = record { level = s.level; slots = v; holds = s.holds; charges = s.charges }

-- what was due first of a request that had its seats was its finish: it left its slot, and gave its seats back
pub record Finishes (c : Carried) (s s' : State) (told : List Ended) : Type 0 where
  pub by : ℕ
  pub between : SlotsView
  pub carries : CarriesOut s.slots by c between
  pub forward : s.slots.time ≤ c.at
  pub since : ℕ
  pub held : c.guest.stay ≡ Holds since
  pub returns : Returns c since (with_slots s between) s' told

-- what was due first of a request that waits was the end of its patience: it was cancelled
pub record GivesUp (c : Carried) (s s' : State) (told : List Ended) : Type 0 where
  pub by : ℕ
  pub between : SlotsView
  pub carries : CarriesOut s.slots by c between
  pub forward : s.slots.time ≤ c.at
  pub waited : c.guest.stay ≡ Waits
  pub cancels : Cancels c.slot (with_slots s between) s' told

-- the operator set the limit, when nothing else was due up to then, and made no other step. Dispatches and Strikes alone came to each history of the level
pub record SetsLimit (n : NewLimit) (s s' : State) (told : List Ended) : Type 0 where
  pub forward : s.slots.time ≤ n.at
  pub over : NothingBy s.slots n.at
  pub old : ℕ
  pub sets : Steps s.level.owner.stations s'.level.owner.stations (Sets n.limit old)
  pub same : SameLocal s.level s'.level
  pub stays : SlotsStay s.level s'.level
  pub history : (v : LifeView) → IsLifeKept v s.level.owner.book → GoesOn v s'.level.owner.book
  pub slots : s'.slots ≡ record { time = n.at; patience = s.slots.patience; slots = s.slots.slots }
  pub holds : s'.holds ≡ s.holds
  pub charges : s'.charges ≡ s.charges
  pub nobody : told ≡ []

-- one deed leads from a state to the next, and this is told by it
abbrev pub IsDeed : Deed → State → State → List Ended → Type 0
IsDeed (Arrive slot a) s s' told = Arrives slot a s s' told
IsDeed (Finish c) s s' told = Finishes c s s' told
IsDeed (GiveUp c) s s' told = GivesUp c s s' told
IsDeed (Read slot) s s' told = (place : Place) × Reads slot place s s' told
IsDeed (SetLimit n) s s' told = SetsLimit n s s' told
