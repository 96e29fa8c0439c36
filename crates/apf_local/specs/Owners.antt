-- A gate, its book and all of its tokens in one hand, and what the calls of their owner answer.
use Rattle.std.specs.Prelude.{◌≡◌, ◌≢◌, ◌⊎◌, ◌≤◌, ℕ, ◌*◌, ◌++◌, ◌==◌, not, Bool, false, List, [], length, All, slice_get, slice_set, Option, Some, None}
use Rattle.apf_words.specs.Level.{Level}
use Rattle.apf_words.specs.declared.decision.Decision.{Decision}
use Rattle.apf_words.specs.declared.decision.Decision.TheVariants.{Execute, QueueFull, Closed, Cancelled, ConcurrencyLimit}
use Rattle.apf_flow.specs.Sizes.{Sizes}
use Rattle.apf_model.specs.declared.response.Response.{Response}
use Rattle.apf_model.specs.declared.response.Response.TheVariants.{Queue, Reject}
use Rattle.apf_history.specs.declared.events.Event.TheVariants.{Strike}
use Rattle.apf_model.specs.History.{has_arrived}
use Rattle.apf_model.specs.Charged.{charge_of}
use Rattle.apf_gate.specs.declared.record.State.TheVariants as states
use Rattle.apf_gate.specs.declared.record.Entry.{Entry}
use Rattle.apf_gate.specs.declared.record.PassRecord.{PassRecord}
use Rattle.apf_gate.specs.Lost.{PassesSawAtMost, StationsSawAtMost}
use Rattle.apf_gate.specs.PassSteps.{PassSubtractsLevel, PassLoadsDecision}
use Rattle.apf_gate.specs.Records.{told_own, KnowsMore}
use Rattle.apf_gate.specs.StationCalls.{TriesToSet}
use Rattle.apf_gate.specs.declared.answers.TrySetLimit.TheVariants as set
use Rattle.apf_gate.specs.declared.record.StationRecord.{StationRecord}
use Rattle.apf_gate.specs.Slots.{next_of}
use Rattle.apf_gate.specs.Tokens.{GateId, PassToken, StationToken, pass_gate, desk_gate, station_gate}
use Rattle.apf_gate.specs.Traces.{asked_in, GoesOn}
use Rattle.apf_gate.specs.declared.record.Actor.TheVariants.{OfStation}
use Rattle.apf_book.specs.declared.arrived.Arrived.{Arrived}
use Rattle.apf_book.specs.declared.arrived.Arrived.TheVariants as arrived
use Rattle.apf_book.specs.Life.{LifeView, IsAskedBy, then_came, then_settled, charge_in, CannotSettle}
use Rattle.apf_book.specs.LifeBook.{LifeBookView, IsLifeKept, arrived_in}
use Rattle.apf_book.specs.LifeCalls.{SameLifeBook}
use Rattle.apf_line.specs.Tokens.{IsDone, IsInLine, IsRunning}
use Rattle.apf_line.specs.Tries.{FoundNoSeatsSince}
use Rattle.apf_line.specs.declared.attempts.Tried.{Tried}
use Rattle.apf_line.specs.declared.attempts.Tried.TheVariants as tries
use Rattle.apf_local.specs.declared.answer.Ask.{Ask}
use Rattle.apf_local.specs.declared.answer.Settlement.{Settlement}
use Rattle.apf_local.specs.Worlds.{HasComeIn}

pub record OwnerView : Type 0 where
  pub gate : GateId
  -- what becomes of a request that finds no seats
  pub response : Response
  pub book : LifeBookView
  pub passes : List PassToken
  pub stations : List StationToken

-- all tokens of the gate are here, and the Desk, which the book has, has seen as much as any other
pub record IsOwner (o : OwnerView) : Type 0 where
  pub desk : desk_gate o.book.desk ≡ o.gate
  pub response_is : o.response ≡ o.gate.shape.response
  pub room : o.book.notes.capacity ≡ 2 * o.gate.shape.slots
  -- what each request asks for is known by what the Desk's steps found alone
  pub known : o.book.queues.known ≡ false
  pub passes_own : All (λ (t : PassToken). pass_gate t ≡ o.gate) o.passes
  pub stations_own : All (λ (t : StationToken). station_gate t ≡ o.gate) o.stations
  pub all_passes : length o.passes ≡ o.gate.shape.slots
  pub all_stations : length o.stations ≡ o.gate.shape.stations
  pub newest : PassesSawAtMost (length o.book.desk.desk.knows.trace) o.passes
  pub stations_newest : StationsSawAtMost (length o.book.desk.desk.knows.trace) o.stations

-- the same gate with as many slots and Stations, and the same book
pub record SameOwner (o o' : OwnerView) : Type 0 where
  pub gate : o'.gate ≡ o.gate
  pub book : SameLifeBook o.book o'.book
  pub slots : length o'.passes ≡ length o.passes
  pub stations : length o'.stations ≡ length o.stations

-- no Pass and no Station made a step
pub record Stay (o o' : OwnerView) : Type 0 where
  pub passes : o'.passes ≡ o.passes
  pub stations : o'.stations ≡ o.stations

-- the Pass of this slot is so
abbrev pub IsSlotOf : List PassToken → ℕ → (PassToken → Type 0) → Type 0
IsSlotOf passes slot Is = (t : PassToken) → slice_get passes slot ≡ Some t → Is t

-- the Pass of this slot did so, and the others are as they were
pub record Moves (slot : ℕ) (old new : List PassToken) (Does : PassToken → PassToken → Type 0) : Type 0 where
  pub before : PassToken
  pub after : PassToken
  pub was : slice_get old slot ≡ Some before
  pub now : new ≡ slice_set old slot after
  pub does : Does before after

-- the request of this Pass tried to take its seats, and found none
abbrev pub FoundNoSeats : PassToken → Type 0
FoundNoSeats token = FoundNoSeatsSince [] token.pass.number token.pass.knows.trace

-- the same, where it was decided so. Only at a gate without queues is a request rejected because it found no seats
abbrev pub IsRefusal : PassToken → Decision → Type 0
IsRefusal token decision = (decision ≡ Closed) ⊎ ((decision ≡ Cancelled) ⊎ ((decision ≡ ConcurrencyLimit) × (token.pass.knows.shape.response ≡ Reject) × FoundNoSeats token))

-- where the slot's next request is, by what its try came to
abbrev pub IsBegun : Ask → Tried → PassToken → Type 0
IsBegun ask tries.Run token = IsRunning token
IsBegun ask (tries.Over decision waiting) token = IsDone token × (told_own token.pass ≡ Some decision) × IsRefusal token decision
IsBegun ask tries.Blocked token = (token.pass.state ≡ states.Fresh) × (token.pass.knows.shape.response ≡ Queue) × (asked_in token.pass.knows.trace token.pass.number ≡ Some (record { hash = ask.hash; cost = ask.cost })) × FoundNoSeats token
IsBegun ask tries.Raced token = ⊥

-- the slot's request is there and asked for this, and did not arrive yet
pub record IsFresh (ask : Ask) (token : PassToken) : Type 0 where
  pub fresh : token.pass.state ≡ states.Fresh
  pub asked : asked_in token.pass.knows.trace token.pass.number ≡ Some (record { hash = ask.hash; cost = ask.cost })

-- the slot went on to its next request, which asks for this
pub record Renews (ask : Ask) (before after : PassToken) : Type 0 where
  pub number : after.pass.number ≡ next_of before.pass.number ask.width
  pub is : IsFresh ask after

-- the same request did not arrive yet
pub record StaysFresh (ask : Ask) (before after : PassToken) : Type 0 where
  pub number : after.pass.number ≡ before.pass.number
  pub is : IsFresh ask after

-- the slot's request knows of all steps that the Desk knows of
abbrev pub HasHeard : ℕ → OwnerView → Type 0
HasHeard slot o = IsSlotOf o.passes slot (λ (t : PassToken). t.pass.knows.trace ≡ o.book.desk.desk.knows.trace)

-- the slot's request tried to take its seats
pub record Comes (ask : Ask) (took : Tried) (before after : PassToken) : Type 0 where
  pub number : after.pass.number ≡ before.pass.number
  pub is : IsBegun ask took after

-- the slot was given to as many requests of this width as it can be
abbrev pub IsUsedUp : GateId → ℕ → PassToken → Type 0
IsUsedUp gate width token = length gate.shape.widths ≤ next_of token.pass.number width

-- the slot went on to its next request, of this width
pub record Begins (ask : Ask) (took : Tried) (before after : PassToken) : Type 0 where
  pub number : after.pass.number ≡ next_of before.pass.number ask.width
  pub is : IsBegun ask took after

-- a fresh Pass at a gate with queues, whose request asked for this hand and this cost
pub record IsBlocked (sizes : Sizes) (hand : List ℕ) (cost : ℕ) (token : PassToken) : Type 0 where
  pub fresh : token.pass.state ≡ states.Fresh
  pub queues : token.pass.knows.shape.response ≡ Queue
  pub asked : IsAskedBy sizes token.pass.knows.trace hand cost token.pass.number

-- where a request is that arrived in the line
abbrev pub IsEntered : Arrived → PassToken → Type 0
IsEntered (arrived.Queued q) token = IsInLine token
IsEntered (arrived.Full q) token = IsDone token × (told_own token.pass ≡ Some QueueFull)
IsEntered arrived.Closed token = IsDone token × (told_own token.pass ≡ Some Closed)
IsEntered arrived.Cancelled token = IsDone token × (told_own token.pass ≡ Some Cancelled)
IsEntered arrived.Again token = ⊥

-- each history that the book was of got the event that is answered, of a request that is new to it
pub record Enters (book : LifeBookView) (hand : List ℕ) (cost : ℕ) (answer : Arrived) (book' : LifeBookView) (before after : PassToken) : Type 0 where
  pub number : after.pass.number ≡ before.pass.number
  pub is : IsEntered answer after
  pub is_new : (v : LifeView) → IsLifeKept v book → has_arrived v.history before.pass.number ≡ false
  pub history : (v : LifeView) → IsLifeKept v book → IsLifeKept (arrived_in v before.pass.number hand cost answer) book'
  pub came : (q : ℕ) → answer ≡ arrived.Queued q → HasComeIn book' after.pass.number

-- it heard what the Desk knows, and then its seats went back by one step, which found whether requests waited
pub record GivesBack (waiting : Bool) (before after : PassToken) : Type 0 where
  pub number : after.pass.number ≡ before.pass.number
  pub is : IsDone after
  pub told : told_own after.pass ≡ Some Execute
  pub heard : PassRecord
  pub hears : (newer : List Entry) × (newer ++ before.pass.knows.trace ≡ heard.knows.trace)
  pub level : Level
  pub between : PassRecord
  pub gives_back : PassSubtractsLevel heard level between
  pub goes_on : (newer : List Entry) × (newer ++ between.knows.trace ≡ after.pass.knows.trace)
  pub finds : waiting ≡ not (level.waiters == 0)

-- where a request is that waited and read its decision
abbrev pub IsRead : Option Decision → PassToken → Type 0
IsRead None token = IsInLine token
IsRead (Some Execute) token = IsRunning token
IsRead (Some decision) token = IsInLine token × (told_own token.pass ≡ Some decision)

-- it heard what the Desk knows, read its decision by one load, and was heard then
pub record Reads (found : Option Decision) (before after : PassToken) : Type 0 where
  pub number : after.pass.number ≡ before.pass.number
  pub is : IsRead found after
  pub heard : PassRecord
  pub hears : (newer : List Entry) × (newer ++ before.pass.knows.trace ≡ heard.knows.trace)
  pub between : PassRecord
  pub loads : PassLoadsDecision heard found between
  pub goes_on : (newer : List Entry) × (newer ++ between.knows.trace ≡ after.pass.knows.trace)

-- a request that waited was told that it does not execute
pub record IsToldOff (token : PassToken) : Type 0 where
  pub in_line : IsInLine token
  pub is_told : told_own token.pass ≢ None
  pub not_executed : told_own token.pass ≢ Some Execute

-- it left the line, cancelled
pub record Leaves (before after : PassToken) : Type 0 where
  pub number : after.pass.number ≡ before.pass.number
  pub is : IsDone after
  pub told : told_own after.pass ≡ Some Cancelled
  pub goes_on : (newer : List Entry) × (newer ++ before.pass.knows.trace ≡ after.pass.knows.trace)

-- of this very log: what a queue was charged for r is settled with this, which is told; or nothing is told, nothing is kept of r or it can be settled no more, and the book stays as it was
abbrev pub SettlesTold : LifeView → LifeBookView → ℕ → ℕ → Option Settlement → LifeBookView → Type 0
SettlesTold v b r m None b' = (b' ≡ b) × CannotSettle b.queues r
SettlesTold v b r m (Some s) b' = (s.took ≡ m) × (charge_in b.queues r ≡ Some s.charge) × (charge_of v.costs v.log r ≡ Some s.charge) × IsLifeKept (then_settled v r s.charge.queue s.charge.amount m) b'

-- the Strike of this request came to this very history, or nothing did
abbrev pub StrikesOne : ℕ → LifeView → LifeBookView → Type 0
StrikesOne r v b' = IsLifeKept v b' ⊎ ((q : ℕ) × IsLifeKept (then_came v (Strike r q)) b')

-- the first Station heard what the others know, made these steps and no others, and told them. The other Stations are as they were
pub record Steps (old new : List StationToken) (Does : StationRecord → StationRecord → Type 0) : Type 0 where
  pub before : StationToken
  pub after : StationToken
  pub was : slice_get old 0 ≡ Some before
  pub now : new ≡ slice_set old 0 after
  pub number : after.station.number ≡ before.station.number
  pub heard : StationRecord
  pub did : StationRecord
  pub more : KnowsMore before.station.knows heard.knows
  pub of_others : GoesOn heard.knows.trace (OfStation before.station.number) before.station.knows.trace
  pub does : Does heard did
  pub told : KnowsMore did.knows after.station.knows
  pub then_of_others : GoesOn after.station.knows.trace (OfStation did.number) did.knows.trace

-- the limit was set by one exchange, which answers the old one
abbrev pub Sets : ℕ → ℕ → StationRecord → StationRecord → Type 0
Sets limit old station station' = (waiting : Bool) × TriesToSet station limit (set.Set old waiting) station'
