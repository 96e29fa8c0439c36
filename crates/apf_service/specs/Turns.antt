-- What each command does to a live level.
use Rattle.std.specs.Prelude.{◌≡◌, ◌↔◌, ℕ, List, slice_get, slice_set, nat_lt, if◌then◌else◌, Bool, true, false, Option, Some, None, Result, Ok}
use Rattle.apf_gate.specs.declared.record.StationRecord.{StationRecord}
use Rattle.apf_gate.specs.StationCalls.{TriesToCancel, ClosesTo}
use Rattle.apf_gate.specs.declared.answers.Cancel.{Cancel}
use Rattle.apf_gate.specs.declared.answers.Close.{Close}
use Rattle.apf_flow.specs.Deal.{hand_of}
use Rattle.apf_history.specs.declared.events.Charge.{Charge}
use Rattle.apf_book.specs.declared.life_event.LifeEvent.{LifeEvent}
use Rattle.apf_book.specs.Life.{LifeView, charge_in}
use Rattle.apf_book.specs.LifeBook.{IsLived, IsLifeKept}
use Rattle.apf_local.specs.declared.answer.Answer.{Answer}
use Rattle.apf_local.specs.declared.answer.Answer.TheVariants as answers
use Rattle.apf_local.specs.declared.answer.Ask.{Ask}
use Rattle.apf_local.specs.declared.answer.Place.TheVariants.{Runs}
use Rattle.apf_local.specs.declared.answer.Settlement.{Settlement}
use Rattle.apf_local.specs.Levels.{LocalView, SameLocal, GoesOn, IsArrival, IsFinish, SettlesSlot, SpendsSlot}
use Rattle.apf_line.specs.SeatTime.{seat_time_of}
use Rattle.apf_local.specs.Owners.{Steps, Sets}
use Rattle.apf_local.specs.Tries.{IsTry, SlotsStay}
use Rattle.apf_protocol.specs.declared.answer.Answer.{Answer as Told}
use Rattle.apf_protocol.specs.declared.answer.Answer.TheVariants.{Limits}
use Rattle.apf_protocol.specs.declared.answer.Given.{Given}
use Rattle.apf_protocol.specs.declared.arrival.Arrival.{Arrival}
use Rattle.apf_protocol.specs.declared.command.Command.{Command}
use Rattle.apf_protocol.specs.declared.command.Command.TheVariants as commands
use Rattle.apf_charges.specs.declared.charges.Charges.{Charges}
use Rattle.apf_charges.specs.Charging.{cost_for, charges_with}
use Rattle.apf_service.specs.declared.state.Asked.{Asked}
use Rattle.apf_service.specs.declared.replies.Refusal.{Refusal}
use Rattle.apf_service.specs.Tallies.{after_arrival, after_finish}
use Rattle.apf_service.specs.Kept.{State, Continues, recharged, slot_in, width_in, asked_at}
use Rattle.apf_service.specs.Replies.{told_of_arrival, told_of_attempt, told_of_finish, told_of_spent, told_of_cancel, told_of_close}

-- what an arrival asks: its flow, and its cost as it is reckoned then
abbrev pub asks : State → Arrival → Asked
asks s a = record { flow = a.ask.hash; cost = cost_for s.charges a.ask.hash a.ask.width a.cost }

-- the same with its width, as the level is asked
abbrev pub ask_of : State → Arrival → Ask
ask_of s a = record { width = a.ask.width; hash = a.ask.hash; cost = (asks s a).cost }

-- the next request of slot n arrived, and is answered and counted as the level's call answered. Each history that the level was of got the request's event, with the hand of its flow and its cost, and there is one (`lived`)
pub record ArrivesAt (n : ℕ) (a : Arrival) (old : State) (reply : Result Told Refusal) (new : State) : Type 0 where
  pub answer : Answer
  pub event : Option LifeEvent
  pub level : LocalView
  pub lived : IsLived old.level.owner.book
  pub arrives : IsArrival n (ask_of old a) (hand_of old.level.sizes a.ask.hash) old.level answer event level
  pub same : SameLocal old.level level
  pub told : reply ≡ told_of_arrival n answer event
  pub after : new ≡ record old { level = level; tally = after_arrival a.ask.width answer old.tally; asked = slice_set old.asked n (asks old a) }

-- the next request of slot n tried
pub record TriesAt (n : ℕ) (a : Arrival) (old : State) (reply : Result Told Refusal) (new : State) : Type 0 where
  pub answer : Answer
  pub level : LocalView
  pub tries : IsTry n (ask_of old a) old.level answer level
  pub continues : Continues old.level level
  pub told : reply ≡ told_of_attempt n answer
  pub after : new ≡ record old { level = level; tally = after_arrival a.ask.width answer old.tally; asked = slice_set old.asked n (asks old a) }

-- what is charged when it is said how long a request ran: it is learned of its flow, if the request gave its seats back
abbrev pub charges_after : Answer → Option ℕ → ℕ → Charges → Charges
charges_after answers.Released (Some micros) flow charges = charges_with charges flow micros
charges_after answer ran flow charges = charges

-- what the request of slot n took is settled before it gives its seats back, where it is said how long it ran, and it executed. Where that is not said, nothing is settled
abbrev pub SettlesBy : ℕ → Option ℕ → Answer → LocalView → LocalView → Type 0
SettlesBy n None answer l l' = (v : LifeView) → IsLifeKept v l.owner.book → GoesOn v l'.owner.book
SettlesBy n (Some micros) answer l l' = answer ≡ answers.Released → (told : Option Settlement) × SettlesSlot n micros told l l'

-- what each queue was given, once a request of this width is settled that ran so long: what it took is in place of what was charged for it
abbrev pub queues_after : Answer → Option ℕ → ℕ → Option Charge → List Given → List Given
queues_after answers.Released (Some micros) w (Some charge) given = recharged charge (seat_time_of w micros) given
queues_after answer ran w charge given = given

-- the request of slot n was to give its seats back
pub record FinishesAt (n : ℕ) (ran : Option ℕ) (old : State) (reply : Result Told Refusal) (new : State) : Type 0 where
  pub answer : Answer
  pub level : LocalView
  pub finishes : IsFinish n old.level answer level
  pub same : SameLocal old.level level
  pub settles : SettlesBy n ran answer old.level level
  pub told : reply ≡ told_of_finish n answer
  pub after : new ≡ record old { level = level; tally = after_finish (width_in (slot_in old n)) answer old.tally; queues = queues_after answer ran (width_in (slot_in old n)) (charge_in old.level.owner.book.queues (slot_in old n).number) old.queues; charges = charges_after answer ran (asked_at old.asked n).flow old.charges }

-- what each queue was given, once a request took this so far: it is in place of what was charged for it, if that was less
abbrev pub queues_spent : Bool → ℕ → Option Charge → List Given → List Given
queues_spent true took (Some charge) given = if nat_lt charge.amount took then recharged charge took given else given
queues_spent executes took charge given = given

-- the request of slot n has run so long so far: its queue is charged that, if it executes
pub record SpendsSo (n micros : ℕ) (executes : Bool) (l l' : LocalView) : Type 0 where
  pub is : (executes ≡ true) ↔ (slice_get l.places n ≡ Some Runs)
  pub nothing : executes ≡ false → l' ≡ l
  pub spends : executes ≡ true → SpendsSlot n micros l l'
  pub same : SameLocal l l'
  pub slots : SlotsStay l l'

pub record SpendsAt (n micros : ℕ) (old : State) (reply : Result Told Refusal) (new : State) : Type 0 where
  pub executes : Bool
  pub level : LocalView
  pub does : SpendsSo n micros executes old.level level
  pub told : reply ≡ told_of_spent n executes
  pub after : new ≡ record old { level = level; queues = queues_spent executes (seat_time_of (width_in (slot_in old n)) micros) (charge_in old.level.owner.book.queues (slot_in old n).number) old.queues }

-- the operator was to do this by its steps, and nothing else changed
pub record OperatorDoes (does : StationRecord → StationRecord → Type 0) (old new : State) : Type 0 where
  pub level : LocalView
  pub steps : Steps old.level.owner.stations level.owner.stations does
  pub slots : SlotsStay old.level level
  pub continues : Continues old.level level
  pub after : new ≡ record old { level = level }

-- the request of slot n was to be cancelled: its own ticket was, by the operator
pub record CancelsAt (n : ℕ) (old : State) (reply : Result Told Refusal) (new : State) : Type 0 where
  pub answer : Cancel
  pub does : OperatorDoes (λ s s'. TriesToCancel s (slot_in old n).number answer s') old new
  pub told : reply ≡ told_of_cancel n answer

-- the limit was set, and the old one is told
pub record LimitsTo (limit : ℕ) (old : State) (reply : Result Told Refusal) (new : State) : Type 0 where
  pub was : ℕ
  pub does : OperatorDoes (Sets limit was) old new
  pub told : reply ≡ Ok (Limits limit was)

-- the level was closed
pub record Closes (old : State) (reply : Result Told Refusal) (new : State) : Type 0 where
  pub answer : Close
  pub does : OperatorDoes (λ s s'. ClosesTo s answer s') old new
  pub told : reply ≡ told_of_close answer

-- the command did this; those that only ask do none of it
abbrev pub Turns : Command → State → Result Told Refusal → State → Type 0
Turns (commands.Arrive n a) old reply new = ArrivesAt n a old reply new
Turns (commands.Try n a) old reply new = TriesAt n a old reply new
Turns (commands.Finish n ran) old reply new = FinishesAt n ran old reply new
Turns (commands.Spent n micros) old reply new = SpendsAt n micros old reply new
Turns (commands.Cancel n) old reply new = CancelsAt n old reply new
Turns (commands.Limit limit) old reply new = LimitsTo limit old reply new
Turns commands.Close old reply new = Closes old reply new
Turns commands.Book old reply new = ⊥
Turns commands.Queues old reply new = ⊥
Turns commands.Metrics old reply new = ⊥
