-- What a live level keeps, as its calls change it.
use Rattle.std.specs.Prelude.{◌≡◌, ◌≢◌, ℕ, ◌+◌, ◌-◌, ◌^◌, min, List, [], ◌∷◌, length, map, slice_index_or, slice_set, nat_lt, if◌then◌else◌, Bool, true, false}
use Rattle.std.specs.List.{range_with_len}
use Rattle.apf_gate.specs.Slots.{coded_width, slot_of}
use Rattle.apf_book.specs.declared.life_event.LifeEvent.{LifeEvent}
use Rattle.apf_book.specs.declared.life_event.LifeEvent.TheVariants as events
use Rattle.apf_book.specs.Life.{LifeView}
use Rattle.apf_book.specs.LifeBook.{IsLifeKept}
use Rattle.apf_local.specs.declared.answer.Place.{Place}
use Rattle.apf_local.specs.declared.answer.Place.TheVariants as places
use Rattle.apf_local.specs.Levels.{LocalView, SameLocal, GoesOn}
use Rattle.apf_local.specs.Tries.{IsReading}
use Rattle.apf_protocol.specs.declared.answer.Given.{Given}
use Rattle.apf_model.specs.declared.config.Config.{Config}
use Rattle.apf_model.specs.declared.response.Response.{Response}
use Rattle.apf_model.specs.declared.response.Response.TheVariants as responses
use Rattle.apf_history.specs.declared.events.Charge.{Charge}
use Rattle.apf_book.specs.declared.settling.Settling.{Settling}
use Rattle.apf_book.specs.declared.settling.Settling.TheVariants as settling
use Rattle.apf_charges.specs.declared.charges.ChargedBy.{ChargedBy}
use Rattle.apf_charges.specs.declared.charges.ChargedBy.TheVariants as by
use Rattle.apf_charges.specs.declared.charges.Charges.{Charges}
use Rattle.apf_charges.specs.Charging.{charge_of}
use Rattle.apf_service.specs.declared.state.Asked.{Asked}
use Rattle.apf_service.specs.declared.state.ServiceState.{ServiceState}
use Rattle.apf_service.specs.declared.tally.Tally.{Tally}
use Rattle.apf_service.specs.Tallies.{Held, slots_of, after_poll}

-- the level, the numbers, what each queue was given, up to which place the events of the queues were read, what requests are charged, and what the newest request of each slot asked
pub record State : Type 0 where
  pub level : LocalView
  pub tally : Tally
  pub queues : List Given
  pub seen : ℕ
  pub charges : Charges
  pub asked : List Asked

-- this level, and what is kept beside it
abbrev pub state_of : LocalView → ServiceState → State
state_of level notes = record { level = level; tally = notes.tally; queues = notes.queues.items; seen = notes.seen; charges = notes.charges; asked = notes.asked.items }

-- what a slot holds that is not there
abbrev pub no_slot : Held
no_slot = record { place = places.Free; number = 0 }

-- what the slot of this number holds
abbrev pub slot_in : State → ℕ → Held
slot_in s n = slice_index_or (slots_of s.level) n no_slot

-- the width of the request that holds a slot
abbrev pub width_in : Held → ℕ
width_in held = coded_width held.number

-- who did not arrive yet, waits or executes is there, at its place
abbrev pub is_there_at : Place → Bool
is_there_at places.Free = false
is_there_at (places.Fresh ask) = true
is_there_at places.Waits = true
is_there_at places.Runs = true

-- a request is there: it did not arrive yet, waits or executes
abbrev pub is_there : Held → Bool
is_there held = is_there_at held.place

-- a queue that was given nothing
abbrev pub given_none : ℕ → Given
given_none queue = record { queue = queue; waiting = 0; entered = 0; service = 0 }

-- this many queues, in the order of their numbers, which were given nothing
abbrev pub none_given : ℕ → List Given
none_given queues = map given_none (range_with_len 0 queues)

-- how many queues a level has, by what becomes of an arrival that does not fit
abbrev pub queues_by : ℕ → Response → ℕ
queues_by queues responses.Queue = queues
queues_by queues responses.Reject = 0

abbrev pub queues_of : Config → ℕ
queues_of config = queues_by config.queues config.limit_response

-- the queues, of which this one is changed so
abbrev pub changed : ℕ → (Given → Given) → List Given → List Given
changed queue change given =
    if nat_lt queue (length given) then slice_set given queue (change (slice_index_or given queue (given_none 0))) else given

-- as much as a number of 64 bits can tell, and one of 32 bits
abbrev pub told : ℕ → ℕ
told n = min n (2 ^ 64 - 1)

abbrev pub told_short : ℕ → ℕ
told_short n = min n (2 ^ 32 - 1)

-- nobody asked anything
abbrev pub none_asked : Asked
none_asked = record { flow = 0; cost = 0 }

-- what the newest request of a slot asked
abbrev pub asked_at : List Asked → ℕ → Asked
asked_at asked n = slice_index_or asked n none_asked

-- what a queue is charged by an event: for who is dispatched its cost, or where seats are charged its width
abbrev pub charged_by : Charges → List Asked → LifeEvent → ℕ
charged_by charges asked (events.Dispatch t q) = charge_of charges (coded_width t.number) (asked_at asked (slot_of t.number)).cost
charged_by charges asked event = 0

-- each queue by one event more: who enters waits there and counts; who is dispatched waits no longer, and the charge is added to the service; who is struck waits no longer
abbrev pub with_event : ℕ → LifeEvent → List Given → List Given
with_event charge (events.Enter t q) given = changed q (λ g. record g { waiting = told_short (g.waiting + 1); entered = told (g.entered + 1) }) given
with_event charge (events.Full t q) given = given
with_event charge (events.Dispatch t q) given = changed q (λ g. record g { waiting = g.waiting - 1; service = told (g.service + charge) }) given
with_event charge (events.Strike t q) given = changed q (λ g. record g { waiting = g.waiting - 1 }) given

-- a queue by what a request took, in place of what the queue was charged for it
abbrev pub recharged : Charge → ℕ → List Given → List Given
recharged charge took given = changed charge.queue (λ g. record g { service = told (g.service - charge.amount + took) }) given

-- whether what requests take is settled, by what they are charged
abbrev pub settling_by : ChargedBy → Settling
settling_by by.Time = settling.Told
settling_by by.Seats = settling.Never

-- the same level, of which each history that it was of went on by Dispatches and Strikes alone
pub record Continues (l l' : LocalView) : Type 0 where
  pub same : SameLocal l l'
  pub history : (v : LifeView) → IsLifeKept v l.owner.book → GoesOn v l'.owner.book

-- the request of the slot, which waited, read its decision, and is counted by where it is now
pub record Polls (slot : ℕ) (old new : State) : Type 0 where
  pub place : Place
  pub level : LocalView
  pub reads : IsReading slot old.level place level
  pub continues : Continues old.level level
  pub after : new ≡ record old { level = level; tally = after_poll (width_in (slot_in old slot)) place old.tally }

-- the request of an event is out of its queue, and read its decision; one that does not wait in its slot did before
abbrev pub Leaves : ℕ → State → State → Type 0
Leaves slot old new = ((slot_in old slot).place ≡ places.Waits → Polls slot old new) × ((slot_in old slot).place ≢ places.Waits → new ≡ old)

-- what follows of one event: it is counted of its queue, and who left the queue read its decision
abbrev pub Follows : LifeEvent → State → State → Type 0
Follows (events.Enter t q) old new = new ≡ record old { queues = with_event 0 (events.Enter t q) old.queues }
Follows (events.Full t q) old new = new ≡ old
Follows (events.Dispatch t q) old new = Leaves (slot_of t.number) (record old { queues = with_event (charged_by old.charges old.asked (events.Dispatch t q)) (events.Dispatch t q) old.queues }) new
Follows (events.Strike t q) old new = Leaves (slot_of t.number) (record old { queues = with_event 0 (events.Strike t q) old.queues }) new

-- what follows of these events, one after another, of which the oldest stands first
abbrev pub FollowsAll : List LifeEvent → State → State → Type 0
FollowsAll [] old new = new ≡ old
FollowsAll (event ∷ log) old new = (between : State) × Follows event old between × FollowsAll log between new
