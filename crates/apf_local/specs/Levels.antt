-- A level as a plain value, as contracts see it, and what its calls answer.
use Rattle.std.specs.Prelude.{◌≡◌, ◌≢◌, ◌<◌, ◌≤◌, ◌⊎◌, ℕ, Bool, true, false, List, length, slice_get, slice_set, Option, Some, None}
use Rattle.apf_words.specs.Limits.{max_cost}
use Rattle.apf_words.specs.declared.decision.Decision.TheVariants.{Execute, QueueFull}
use Rattle.apf_flow.specs.Deal.{hand_of}
use Rattle.apf_flow.specs.Sizes.{Sizes}
use Rattle.apf_history.specs.declared.events.Charge.{Charge}
use Rattle.apf_history.specs.declared.events.Event.{Event}
use Rattle.apf_history.specs.declared.events.Event.TheVariants as events
use Rattle.apf_model.specs.History.{has_arrived}
use Rattle.apf_model.specs.Charged.{charge_of}
use Rattle.apf_queue.specs.View.{queue_count}
use Rattle.apf_model.specs.World.{width}
use Rattle.apf_gate.specs.Records.{told_own}
use Rattle.apf_gate.specs.Slots.{next_of}
use Rattle.apf_gate.specs.Tokens.{PassToken, StationToken}
use Rattle.apf_book.specs.declared.life_event.LifeEvent.{LifeEvent}
use Rattle.apf_book.specs.Life.{LifeView, asked, then_came, then_settled, then_spent, settles_in, charge_in, CannotSettle, CannotSpend}
use Rattle.apf_book.specs.LifeBook.{LifeBookView, IsLifeKept, then_came_all}
use Rattle.apf_book.specs.RecentEvents.{event_of}
use Rattle.apf_book.specs.Servings.{AreServings}
use Rattle.apf_line.specs.declared.attempts.Tried.{Tried}
use Rattle.apf_line.specs.declared.attempts.Tried.TheVariants as tries
use Rattle.apf_line.specs.declared.report.Report.{Report}
use Rattle.apf_line.specs.Levels.{LifeId}
use Rattle.apf_line.specs.Reports.{EndedAs}
use Rattle.apf_line.specs.SeatTime.{seat_time_of}
use Rattle.apf_line.specs.Stopped.{IsStopped}
use Rattle.apf_line.specs.Tokens.{IsDone, IsInLine, IsRunning}
use Rattle.apf_local.specs.declared.answer.Ask.{Ask}
use Rattle.apf_local.specs.declared.answer.Answer.{Answer}
use Rattle.apf_local.specs.declared.answer.Answer.TheVariants as answers
use Rattle.apf_local.specs.declared.answer.Place.{Place}
use Rattle.apf_local.specs.declared.answer.Place.TheVariants as places
use Rattle.apf_local.specs.declared.answer.Settlement.{Settlement}
use Rattle.apf_local.specs.declared.admitting.Admitted.{Admitted}
use Rattle.apf_local.specs.declared.admitting.Admitted.TheVariants as admitted
use Rattle.apf_local.specs.Worlds.{HasComeIn}
use Rattle.apf_local.specs.Owners.{OwnerView, SameOwner, GivesBack, IsBegun, IsFresh, Renews, IsSlotOf, IsUsedUp}

pub record LocalView : Type 0 where
  pub owner : OwnerView
  pub sizes : Sizes
  pub places : List Place

-- which level it is
abbrev pub id_of : LocalView → LifeId
id_of l = record { gate = l.owner.gate; sizes = l.sizes; queue_limit = l.owner.book.queues.queues.length_limit; settles = settles_in l.owner.book.queues }

-- the Pass is where the slot's request is
abbrev pub IsAt : Place → PassToken → Type 0
IsAt places.Free token = IsDone token
IsAt (places.Fresh ask) token = IsFresh ask token × (1 ≤ ask.cost) × (ask.cost ≤ max_cost)
IsAt places.Waits token = IsInLine token
IsAt places.Runs token = IsRunning token

-- each request that waits came, by the steps that the Desk knows
abbrev pub HaveCome : List Place → List PassToken → LifeBookView → Type 0
HaveCome waiting passes b = (i : ℕ) (t : PassToken) → slice_get waiting i ≡ Some places.Waits → slice_get passes i ≡ Some t → HasComeIn b t.pass.number

-- the queues are those that its dealer deals, each Pass is where its slot's request is, and nobody waits or who is dispatched next does not fit the level word that the Desk found last
pub record IsLocal (l : LocalView) : Type 0 where
  pub deck : queue_count l.owner.book.queues.queues ≡ l.sizes.deck
  pub hand : l.owner.book.queues.hand ≡ l.sizes.hand
  pub operator : 0 < length l.owner.stations
  pub count : length l.places ≡ length l.owner.passes
  pub at : (i : ℕ) (p : Place) (t : PassToken) → slice_get l.places i ≡ Some p → slice_get l.owner.passes i ≡ Some t → IsAt p t
  pub came : HaveCome l.places l.owner.passes l.owner.book
  pub stopped : IsStopped l.owner.book

-- the same level, with as many slots
pub record SameLocal (l l' : LocalView) : Type 0 where
  pub owner : SameOwner l.owner l'.owner
  pub sizes : l'.sizes ≡ l.sizes

-- Dispatches and Strikes alone came to this very history
pub record GoesOn (v : LifeView) (b' : LifeBookView) : Type 0 where
  pub events : List Event
  pub kept : IsLifeKept (then_came_all events v) b'
  pub servings : AreServings events

-- what a level told when it ended: Dispatches and Strikes alone came to each history that it was of, and it ended by that
pub record EndsFrom (l : LocalView) (r : Report) : Type 0 where
  pub passes : List PassToken
  pub stations : List StationToken
  pub history : (v : LifeView) → IsLifeKept v l.owner.book → (events : List Event) × AreServings events × EndedAs (id_of l) (then_came_all events v) passes stations r

-- the slot and its Pass, before and after a call. The other slots are as they were
pub record SlotMoves (slot : ℕ) (l l' : LocalView) (Does : Place → PassToken → Place → PassToken → Type 0) : Type 0 where
  pub before : PassToken
  pub after : PassToken
  pub place : Place
  pub place' : Place
  pub was : slice_get l.owner.passes slot ≡ Some before
  pub was_at : slice_get l.places slot ≡ Some place
  pub now : l'.owner.passes ≡ slice_set l.owner.passes slot after
  pub now_at : l'.places ≡ slice_set l.places slot place'
  pub does : Does place before place' after

-- where a request is that was admitted so, and what it was told
abbrev pub IsAdmitted : Admitted → PassToken → Type 0
IsAdmitted admitted.Run token = IsRunning token
IsAdmitted (admitted.Over decision) token = IsDone token × (told_own token.pass ≡ Some decision) × (decision ≢ Execute)
IsAdmitted admitted.Waits token = IsInLine token

-- the event is the request's: its Enter, or its Full where the queue was full
abbrev pub IsEventOf : ℕ → Admitted → Event → Type 0
IsEventOf r answer (events.Enter r' q) = (r' ≡ r) × (answer ≡ admitted.Waits)
IsEventOf r answer (events.Full r' q) = (r' ≡ r) × (answer ≡ admitted.Over QueueFull)
IsEventOf r answer (events.Dispatch r' q) = ⊥
IsEventOf r answer (events.Strike r' q) = ⊥

-- this very history got the event, if there is one, of a request that is new to it, with this hand and this cost. There is none only if the request does not wait, and no queue was full
abbrev pub LogsOne : LifeView → ℕ → List ℕ → ℕ → Admitted → Option LifeEvent → LifeBookView → Type 0
LogsOne v r hand cost answer None b' = (answer ≢ admitted.Waits) × (answer ≢ admitted.Over QueueFull) × IsLifeKept v b'
LogsOne v r hand cost answer (Some event) b' = IsEventOf r answer (event_of event) × (has_arrived v.history r ≡ false) × IsLifeKept (then_came (asked v r hand cost) (event_of event)) b'

-- what is answered of a request follows from what its try came to: only one that found no seats stands in line
abbrev pub Follows : Tried → Admitted → Type 0
Follows tries.Run answer = answer ≡ admitted.Run
Follows (tries.Over decision waiting) answer = answer ≡ admitted.Over decision
Follows tries.Blocked answer = Unit {0}
Follows tries.Raced answer = ⊥

-- the request tried to take its seats before it is answered so
pub record HasTried (ask : Ask) (answer : Admitted) (after : PassToken) : Type 0 where
  pub took : Tried
  pub then : PassToken
  pub number : after.pass.number ≡ then.pass.number
  pub is : IsBegun ask took then
  pub follows : Follows took answer

-- the slot went on to its next request, which arrived
pub record Admits (ask : Ask) (hand : List ℕ) (b : LifeBookView) (answer : Admitted) (event : Option LifeEvent) (b' : LifeBookView) (before after : PassToken) : Type 0 where
  pub number : after.pass.number ≡ next_of before.pass.number ask.width
  pub is : IsAdmitted answer after
  pub tried : HasTried ask answer after
  pub came : answer ≡ admitted.Waits → HasComeIn b' after.pass.number
  pub history : (v : LifeView) → IsLifeKept v b → LogsOne v after.pass.number hand ask.cost answer event b'

-- the slot's request, which was there, arrived
pub record Stands (ask : Ask) (hand : List ℕ) (b : LifeBookView) (answer : Admitted) (event : Option LifeEvent) (b' : LifeBookView) (before after : PassToken) : Type 0 where
  pub number : after.pass.number ≡ before.pass.number
  pub is : IsAdmitted answer after
  pub tried : HasTried ask answer after
  pub came : answer ≡ admitted.Waits → HasComeIn b' after.pass.number
  pub history : (v : LifeView) → IsLifeKept v b → LogsOne v after.pass.number hand ask.cost answer event b'

-- the slot's request arrived in the line
pub record Enqueues (ask : Ask) (hand : List ℕ) (b : LifeBookView) (answer : Admitted) (event : Option LifeEvent) (b' : LifeBookView) (before after : PassToken) : Type 0 where
  pub number : after.pass.number ≡ before.pass.number
  pub is : IsAdmitted answer after
  pub came : answer ≡ admitted.Waits → HasComeIn b' after.pass.number
  pub history : (v : LifeView) → IsLifeKept v b → LogsOne v after.pass.number hand ask.cost answer event b'

-- the same, and then Dispatches and Strikes alone
abbrev pub LogsIn : LifeView → ℕ → List ℕ → ℕ → Admitted → Option LifeEvent → LifeBookView → Type 0
LogsIn v r hand cost answer None b' = (answer ≢ admitted.Waits) × (answer ≢ admitted.Over QueueFull) × GoesOn v b'
LogsIn v r hand cost answer (Some event) b' = IsEventOf r answer (event_of event) × (has_arrived v.history r ≡ false) × GoesOn (then_came (asked v r hand cost) (event_of event)) b'

abbrev pub answer_of : Admitted → Answer
answer_of admitted.Run = answers.Run
answer_of (admitted.Over decision) = answers.Over decision
answer_of admitted.Waits = answers.Waits

abbrev pub place_of : Admitted → Place
place_of admitted.Run = places.Runs
place_of (admitted.Over decision) = places.Free
place_of admitted.Waits = places.Waits

-- a free slot went on to its next request, which arrived and is where the answer says
pub record Arrives (ask : Ask) (hand : List ℕ) (b : LifeBookView) (answer : Answer) (event : Option LifeEvent) (b' : LifeBookView) (place : Place) (before : PassToken) (place' : Place) (after : PassToken) : Type 0 where
  pub was_free : place ≡ places.Free
  pub number : after.pass.number ≡ next_of before.pass.number ask.width
  pub admitted : Admitted
  pub answer_is : answer ≡ answer_of admitted
  pub place_is : place' ≡ place_of admitted
  pub is : IsAdmitted admitted after
  pub tried : HasTried ask admitted after
  pub history : (v : LifeView) → IsLifeKept v b → LogsIn v after.pass.number hand ask.cost admitted event b'

-- a free slot went on to its next request, which asks for this and did not arrive yet
pub record BecomesFresh (ask : Ask) (place : Place) (before : PassToken) (place' : Place) (after : PassToken) : Type 0 where
  pub was_free : place ≡ places.Free
  pub place_is : place' ≡ places.Fresh ask
  pub renews : Renews ask before after

-- the request of a slot arrived, which was there and asked for this
pub record ArrivesRenewed (sizes : Sizes) (b : LifeBookView) (answer : Answer) (event : Option LifeEvent) (b' : LifeBookView) (place : Place) (before : PassToken) (place' : Place) (after : PassToken) : Type 0 where
  pub ask : Ask
  pub was_fresh : place ≡ places.Fresh ask
  pub number : after.pass.number ≡ before.pass.number
  pub admitted : Admitted
  pub answer_is : answer ≡ answer_of admitted
  pub place_is : place' ≡ place_of admitted
  pub is : IsAdmitted admitted after
  pub tried : HasTried ask admitted after
  pub history : (v : LifeView) → IsLifeKept v b → LogsIn v after.pass.number (hand_of sizes ask.hash) ask.cost admitted event b'

-- a request that executed gave its seats back by one step, and its slot is free
pub record Finishes (place : Place) (before : PassToken) (place' : Place) (after : PassToken) : Type 0 where
  pub ran : place ≡ places.Runs
  pub place_is : place' ≡ places.Free
  pub waiting : Bool
  pub gives : GivesBack waiting before after

-- the next request of the slot arrived; or the slot is not free, or it is and its numbers are used up, and nothing was done
abbrev pub IsArrival : ℕ → Ask → List ℕ → LocalView → Answer → Option LifeEvent → LocalView → Type 0
IsArrival slot ask hand l answers.Wrong event l' = (l' ≡ l) × (event ≡ None) × (slice_get l.places slot ≢ Some places.Free)
IsArrival slot ask hand l answers.Spent event l' = (l' ≡ l) × (event ≡ None) × (slice_get l.places slot ≡ Some places.Free) × IsSlotOf l.owner.passes slot (IsUsedUp l.owner.gate ask.width)
IsArrival slot ask hand l answer event l' = SlotMoves slot l l' (Arrives ask hand l.owner.book answer event l'.owner.book)

-- the slot went on to its next request; or it is not free, or its numbers are used up, and nothing was done
abbrev pub IsRenewal : ℕ → Ask → LocalView → Bool → LocalView → Type 0
IsRenewal slot ask l true l' = SlotMoves slot l l' (BecomesFresh ask)
IsRenewal slot ask l false l' = (l' ≡ l) × ((slice_get l.places slot ≢ Some places.Free) ⊎ IsSlotOf l.owner.passes slot (IsUsedUp l.owner.gate ask.width))

-- the place of a request that did not arrive yet
abbrev pub IsFreshPlace : Option Place → Type 0
IsFreshPlace (Some (places.Fresh ask)) = Unit {0}
IsFreshPlace _ = ⊥

-- the slot's request arrived; or none is there that did not, and nothing was done
abbrev pub IsArrivalOfRenewed : ℕ → LocalView → Answer → Option LifeEvent → LocalView → Type 0
IsArrivalOfRenewed slot l answers.Wrong event l' = (l' ≡ l) × (event ≡ None) × (¬ IsFreshPlace (slice_get l.places slot))
IsArrivalOfRenewed slot l answer event l' = SlotMoves slot l l' (ArrivesRenewed l.sizes l.owner.book answer event l'.owner.book)

-- its seats went back; or its request does not execute, and nothing was done
abbrev pub IsFinish : ℕ → LocalView → Answer → LocalView → Type 0
IsFinish slot l answers.Wrong l' = (l' ≡ l) × (slice_get l.places slot ≢ Some places.Runs)
IsFinish slot l answers.Released l' = SlotMoves slot l l' Finishes
IsFinish slot l answer l' = ⊥

-- of this very log: what a queue was charged for r is settled with this, which is told, and then Dispatches and Strikes alone came; or nothing is told, and those alone came, since nothing is kept of r, or it can be settled no more
abbrev pub SettlesOn : LifeView → LifeBookView → ℕ → ℕ → Option Settlement → LifeBookView → Type 0
SettlesOn v b r m None b' = CannotSettle b.queues r × GoesOn v b'
SettlesOn v b r m (Some s) b' = (s.took ≡ m) × (charge_in b.queues r ≡ Some s.charge) × (charge_of v.costs v.log r ≡ Some s.charge) × GoesOn (then_settled v r s.charge.queue s.charge.amount m) b'

-- of this very log: what a queue was charged for r was less than this, and is this from then on, and then Dispatches and Strikes alone came; or those alone, since nothing is kept of r, it was no less, or it can be changed no more
abbrev pub SpendsOn : LifeView → LifeBookView → ℕ → ℕ → LifeBookView → Type 0
SpendsOn v b r m b' = ((c : Charge) × (charge_in b.queues r ≡ Some c) × (charge_of v.costs v.log r ≡ Some c) × (c.amount < m) × GoesOn (then_spent v r c.queue c.amount m) b') ⊎ (CannotSpend b.queues r m × GoesOn v b')

-- each log has that the slot's request took so long before anything else, if that is told
abbrev pub SettlesSlot : ℕ → ℕ → Option Settlement → LocalView → LocalView → Type 0
SettlesSlot slot micros told l l' = IsSlotOf l.owner.passes slot (λ (t : PassToken). (v : LifeView) → IsLifeKept v l.owner.book → SettlesOn v l.owner.book t.pass.number (seat_time_of (width l.owner.gate.shape.widths t.pass.number) micros) told l'.owner.book)

-- each log has that the slot's request has taken so long, before anything else
abbrev pub SpendsSlot : ℕ → ℕ → LocalView → LocalView → Type 0
SpendsSlot slot micros l l' = IsSlotOf l.owner.passes slot (λ (t : PassToken). (v : LifeView) → IsLifeKept v l.owner.book → SpendsOn v l.owner.book t.pass.number (seat_time_of (width l.owner.gate.shape.widths t.pass.number) micros) l'.owner.book)
