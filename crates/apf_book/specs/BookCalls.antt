-- What the calls of a Book ask and answer, by its Desk and its log.
use Rattle.std.specs.Prelude.{◌≡◌, ◌↔◌, ℕ, Bool, true, false, List, [], ◌∷◌, length, map, Contains, Option, Result, IfOk, IfErr, OnOk}
use Rattle.apf_words.specs.declared.decision.Decision.{Decision}
use Rattle.apf_history.specs.declared.events.Event.TheVariants.{Strike}
use Rattle.apf_model.specs.declared.config.Config.{Config}
use Rattle.apf_model.specs.declared.config.Ask.{Ask}
use Rattle.apf_model.specs.declared.response.Response.TheVariants.{Queue}
use Rattle.apf_model.specs.History.{has_arrived, waiting}
use Rattle.apf_model.specs.Schedule.{AreCosts}
use Rattle.apf_gate.specs.Records.{new_desk}
use Rattle.apf_gate.specs.Tokens.{GateId, PassToken, DeskToken, pass_gate, desk_gate}
use Rattle.apf_gate.specs.JoinedSteps.{JoinedLoadsDecision}
use Rattle.apf_book.specs.declared.arrived.Arrived.{Arrived}
use Rattle.apf_book.specs.declared.arrived.Arrived.TheVariants as arrived
use Rattle.apf_book.specs.declared.fault.BookFault.{BookFault}
use Rattle.apf_book.specs.LedgerView.{LedgerView}
use Rattle.apf_book.specs.BookView.{BookView}
use Rattle.apf_book.specs.Opening.{IsFaultOf, AreSettings}
use Rattle.apf_book.specs.Arrivals.{arrival, IsTold}
use Rattle.apf_book.specs.Servings.{with, Serves, Stops, Strikes}
use Rattle.apf_book.specs.Stopped.{IsStopped}

-- the Desk made no step yet, and is of a batch with queues and the widths of these asks
pub record IsDeskFor (asks : List Ask) (desk : DeskToken) : Type 0 where
  pub fresh : desk.desk ≡ new_desk desk.desk.knows.shape
  pub widths : map (λ (a : Ask). a.width) asks ≡ desk.desk.knows.shape.widths
  pub has_queues : desk.desk.knows.shape.response ≡ Queue
  pub batch : length desk.desk.knows.shape.widths ≡ desk.desk.knows.shape.slots

-- one cost of 1 to 4,294,967,295 for each ask
pub record AreCostsFor (asks : List Ask) (charges : List ℕ) : Type 0 where
  pub one_cost_each : length charges ≡ length asks
  pub costs : AreCosts charges

-- the book that was made has the Desk as it was given and this ledger, and it is stopped; or the fault is the first of the settings
pub record MakesBook (config : Config) (asks : List Ask) (given : DeskToken) (opening : LedgerView) (made : Result BookView BookFault) : Type 0 where
  pub desk : IfOk made (λ (b : BookView). b.desk ≡ given)
  pub ledger : IfOk made (λ (b : BookView). b.ledger ≡ opening)
  pub stopped : IfOk made (λ (b : BookView). IsStopped b.ledger b.desk.desk.knows)
  pub settings : OnOk made (AreSettings config asks)
  pub fault : IfErr made (IsFaultOf config asks)

-- the book's Desk and the Pass are of this gate
pub record AreOf (gate : GateId) (book : BookView) (token : PassToken) : Type 0 where
  pub own : desk_gate book.desk ≡ gate
  pub own_pass : pass_gate token ≡ gate

-- the log gets the event that the answer names; a decision that it names was told in this call; and it is that the request arrived before exactly if the log says so
pub record AnswersArrival (book : BookView) (token : PassToken) (answer : Arrived) (book' : BookView) (token' : PassToken) : Type 0 where
  pub log : book'.ledger ≡ with (arrival answer token.pass.number) book.ledger
  pub told : IsTold answer token'.pass book.desk.desk.knows book'.desk.desk.knows
  pub again : (answer ≡ arrived.Again) ↔ (has_arrived book.ledger.history token.pass.number ≡ true)

-- this many were dispatched, and on return nothing waits or the chosen head did not fit
pub record Dispatches (book : BookView) (count : ℕ) (book' : BookView) : Type 0 where
  pub log : Serves book.ledger book'.ledger count
  pub stops : Stops book'.ledger book.desk.desk.knows book'.desk.desk.knows
  pub stopped : IsStopped book'.ledger book'.desk.desk.knows

-- the request waited, and the log gets its Strike; or the log stays. The Desk read its word, and made a second step exactly if it struck
pub record StrikesOut (book : BookView) (r : ℕ) (answer : Bool) (book' : BookView) : Type 0 where
  pub struck : answer ≡ true → (q : ℕ) × Contains (waiting book.ledger.history q) r × (book'.ledger ≡ with (Strike r q ∷ []) book.ledger)
  pub stays : answer ≡ false → book'.ledger ≡ book.ledger
  pub reads : Strikes book.desk.desk r answer ((q : ℕ) × Contains (waiting book.ledger.history q) r) book'.desk.desk

-- the Desk and the Pass, joined, loaded the request's word, and the log stays
pub record Hears (book : BookView) (token : PassToken) (book' : BookView) (token' : PassToken) : Type 0 where
  pub ledger : book'.ledger ≡ book.ledger
  pub answer : (found : Option Decision) × JoinedLoadsDecision (record { pass = token.pass; desk = book.desk.desk }) found (record { pass = token'.pass; desk = book'.desk.desk })
