-- What the calls of a book for life ask and answer, and what a caller may rely on after them.
use Rattle.std.specs.Prelude.{◌++◌, ◌≡◌, ◌≢◌, ◌↔◌, ◌*◌, ◌≤◌, ◌<◌, ℕ, Bool, true, false, List, length, All, Option, Result, Some, None, IfOk, IfErr, OnOk}
use Rattle.apf_words.specs.Limits.{max_cost}
use Rattle.apf_words.specs.declared.decision.Decision.{Decision}
use Rattle.apf_words.specs.declared.decision.Decision.TheVariants.{Cancelled}
use Rattle.apf_model.specs.declared.config.Config.{Config}
use Rattle.apf_model.specs.History.{has_arrived}
use Rattle.apf_queue.specs.View.{IsQueueShape, queue_count}
use Rattle.apf_queue.specs.declared.fault.QueueFault.TheVariants as queue
use Rattle.apf_gate.specs.declared.record.Entry.{Entry}
use Rattle.apf_gate.specs.declared.record.State.TheVariants.{InLine}
use Rattle.apf_gate.specs.declared.record.Service.TheVariants.{NotHanded, Left}
use Rattle.apf_gate.specs.Records.{new_desk, told_of, told_own, service, KnowsMore}
use Rattle.apf_gate.specs.Requests.{has_entered}
use Rattle.apf_gate.specs.Tokens.{GateId, PassToken, DeskToken, pass_gate, desk_gate}
use Rattle.apf_gate.specs.JoinedSteps.{JoinedLoadsDecision}
use Rattle.apf_book.specs.declared.arrived.Arrived.{Arrived}
use Rattle.apf_book.specs.declared.arrived.Arrived.TheVariants as arrived
use Rattle.apf_book.specs.declared.fault.BookFault.{BookFault}
use Rattle.apf_book.specs.declared.fault.BookFault.TheVariants.{Queues, NoMemory}
use Rattle.apf_book.specs.Arrivals.{IsTold, SaysOpen}
use Rattle.apf_book.specs.declared.settling.Settling.{Settling}
use Rattle.apf_book.specs.Life.{LifeView, IsOpening, places_of}
use Rattle.apf_book.specs.LifeBook.{LifeBookView, IsLifeKept, arrived_in}

-- the Desk made no step yet, and is of a gate with this many slots
pub record IsLifeDeskFor (slots : ℕ) (desk : DeskToken) : Type 0 where
  pub fresh : desk.desk ≡ new_desk desk.desk.knows.shape
  pub slots_are : desk.desk.knows.shape.slots ≡ slots

-- the first fault: the queues', out of memory
abbrev pub IsLifeFaultOf : Config → ℕ → BookFault → Type 0
IsLifeFaultOf c slots (Queues f) = (f ≡ queue.BadShape) × (¬ IsQueueShape c.queues c.queue_length_limit slots)
IsLifeFaultOf c slots NoMemory = IsQueueShape c.queues c.queue_length_limit slots
IsLifeFaultOf c slots other = ⊥

-- the book that was made has the Desk as it was given, room for two events of each slot, places for what is charged where that is settled, and every history in which nothing happened yet; or the fault is the first of the settings
pub record MakesLifeBook (config : Config) (slots : ℕ) (given : DeskToken) (settling : Settling) (known : Bool) (made : Result LifeBookView BookFault) : Type 0 where
  pub desk : IfOk made (λ (b : LifeBookView). b.desk ≡ given)
  pub room : IfOk made (λ (b : LifeBookView). b.notes.capacity ≡ 2 * slots)
  pub hand : IfOk made (λ (b : LifeBookView). b.queues.hand ≡ config.hand_size)
  pub places : IfOk made (λ (b : LifeBookView). length b.queues.running ≡ places_of settling slots)
  pub known_is : IfOk made (λ (b : LifeBookView). b.queues.known ≡ known)
  pub opens : IfOk made (λ (b : LifeBookView). (v : LifeView) → IsOpening v config.queues config.queue_length_limit → length v.costs ≡ length given.desk.knows.shape.widths → IsLifeKept v b)
  pub settings : OnOk made (IsQueueShape config.queues config.queue_length_limit slots)
  pub fault : IfErr made (IsLifeFaultOf config slots)

-- the book's Desk and the Pass are of this gate
pub record AreOfLife (gate : GateId) (book : LifeBookView) (token : PassToken) : Type 0 where
  pub own : desk_gate book.desk ≡ gate
  pub own_pass : pass_gate token ≡ gate

-- the request of the Pass is in line, and was never handed over
pub record IsNew (token : PassToken) : Type 0 where
  pub in_line : token.pass.state ≡ InLine
  pub not_handed : token.pass.handed ≡ false

-- a hand of queues of the book, and a cost of 1 to 4,294,967,295
pub record IsAsk (book : LifeBookView) (hand : List ℕ) (cost : ℕ) : Type 0 where
  pub has_cards : 0 < length hand
  pub are_queues : All (λ (q : ℕ). q < queue_count book.queues.queues) hand
  pub some_cost : 1 ≤ cost
  pub low : cost ≤ max_cost

-- the Desk is of the same gate still and knows more than it did, and the book has as many queues, slots and places for events and for charges as it had, and as much is known beforehand
pub record SameLifeBook (book book' : LifeBookView) : Type 0 where
  pub gate : desk_gate book'.desk ≡ desk_gate book.desk
  pub more : KnowsMore book.desk.desk.knows book'.desk.desk.knows
  pub queues : queue_count book'.queues.queues ≡ queue_count book.queues.queues
  pub room : book'.notes.capacity ≡ book.notes.capacity
  pub hand : book'.queues.hand ≡ book.queues.hand
  pub known : book'.queues.known ≡ book.queues.known
  pub places : length book'.queues.running ≡ length book.queues.running

-- the request entered exactly if the answer says so
abbrev pub SaysQueued : Arrived → Type 0
SaysQueued (arrived.Queued q) = Unit {0}
SaysQueued (arrived.Full q) = ⊥
SaysQueued arrived.Closed = ⊥
SaysQueued arrived.Cancelled = ⊥
SaysQueued arrived.Again = ⊥

-- each history that the book is of gets the event that the answer names, of a request that is new to it; a decision that it names was told in this call
pub record AnswersLifeArrival (book : LifeBookView) (token : PassToken) (hand : List ℕ) (cost : ℕ) (answer : Arrived) (book' : LifeBookView) (token' : PassToken) : Type 0 where
  pub history : (v : LifeView) → IsLifeKept v book → IsLifeKept (arrived_in v token.pass.number hand cost answer) book'
  pub is_new : (v : LifeView) → IsLifeKept v book → has_arrived v.history token.pass.number ≡ false
  pub told : IsTold answer token'.pass book.desk.desk.knows book'.desk.desk.knows
  pub first : answer ≢ arrived.Again

-- after an arrival the Pass is in line still, and has that it entered exactly if that is answered. A level that was seen closed is closed, and a request that was told cancelled does not find it open
pub record AfterLifeArrival (book : LifeBookView) (token : PassToken) (answer : Arrived) (token' : PassToken) : Type 0 where
  pub in_line : token'.pass.state ≡ InLine
  pub entered : (token'.pass.entered ≡ true) ↔ SaysQueued answer
  pub stays_closed : book.desk.desk.knows.saw_closed ≡ true → ¬ SaysOpen answer
  pub cancelled_first : told_own token.pass ≡ Some Cancelled → ¬ SaysOpen answer
  pub cancelled_seen : told_own token'.pass ≡ Some Cancelled → ¬ SaysOpen answer

-- the Desk and the Pass, joined, loaded the request's word. What the Pass was told both are told, and it has that its request left where the Desk let it leave. They agreed on whether it was handed over and entered
pub record HearsLife (book : LifeBookView) (token : PassToken) (book' : LifeBookView) (token' : PassToken) : Type 0 where
  pub history : (v : LifeView) → IsLifeKept v book → IsLifeKept v book'
  pub answer : (found : Option Decision) × JoinedLoadsDecision (record { pass = token.pass; desk = book.desk.desk }) found (record { pass = token'.pass; desk = book'.desk.desk })
  pub state : token'.pass.state ≡ token.pass.state
  pub told : told_own token.pass ≢ None → told_of book'.desk.desk.knows.told token.pass.number ≡ told_own token.pass
  pub told_pass : told_own token.pass ≢ None → told_own token'.pass ≡ told_own token.pass
  pub left : service book.desk.desk token.pass.number ≡ Left → token'.pass.left ≡ true
  pub entered : token'.pass.entered ≡ has_entered (service book.desk.desk token.pass.number)
  pub not_handed : token.pass.handed ≡ false → service book.desk.desk token.pass.number ≡ NotHanded

-- what the Pass knew the Desk knows
abbrev pub HeardAll : PassToken → LifeBookView → Type 0
HeardAll token book' = (newer : List Entry) × (newer ++ token.pass.knows.trace ≡ book'.desk.desk.knows.trace)
