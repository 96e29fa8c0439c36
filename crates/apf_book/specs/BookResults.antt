-- What a caller may rely on after each call of a Book.
use Rattle.std.specs.Prelude.{◌≡◌, ◌≢◌, ◌↔◌, ◌*◌, ◌≤◌, ◌<◌, ℕ, Bool, true, false, List, length, reverse, Contains, Some, None}
use Rattle.apf_words.specs.declared.decision.Decision.TheVariants.{Cancelled}
use Rattle.apf_history.specs.declared.events.Event.{Event}
use Rattle.apf_history.specs.declared.events.Event.TheVariants.{Enter}
use Rattle.apf_model.specs.History.{has_arrived, waiting}
use Rattle.apf_model.specs.Fair.{widest, DifferAtMost}
use Rattle.apf_gate.specs.declared.record.State.TheVariants.{InLine}
use Rattle.apf_gate.specs.Records.{told_of, told_own, KnowsMore}
use Rattle.apf_gate.specs.Tokens.{PassToken, pass_gate, desk_gate}
use Rattle.apf_book.specs.declared.arrived.Arrived.{Arrived}
use Rattle.apf_book.specs.BookView.{BookView, IsKept}
use Rattle.apf_book.specs.Arrivals.{SaysOpen}
use Rattle.apf_book.specs.Stopped.{IsStopped}
use Rattle.apf_book.specs.Stretch.{IsBacklogged, service_in, IsIsolated, AreWaitsBounded}

-- the Desk is of the same gate still and knows more than it did, and it and the log agree
pub record SameBook (book book' : BookView) : Type 0 where
  pub gate : desk_gate book'.desk ≡ desk_gate book.desk
  pub more : KnowsMore book.desk.desk.knows book'.desk.desk.knows
  pub kept : IsKept book'.desk.desk book'.ledger

-- it is the Pass of the same request at the same gate still
pub record SameRequest (token token' : PassToken) : Type 0 where
  pub pass : pass_gate token' ≡ pass_gate token
  pub number : token'.pass.number ≡ token.pass.number

-- after an arrival the Pass is in line still, and has that it entered exactly if the log says so. Who was never handed over arrived for the first time. A level that was seen closed is closed, and a request that was told cancelled does not find it open
pub record AfterArrive (book : BookView) (token : PassToken) (answer : Arrived) (book' : BookView) (token' : PassToken) : Type 0 where
  pub in_line : token'.pass.state ≡ InLine
  pub first : token.pass.handed ≡ false → has_arrived book.ledger.history token.pass.number ≡ false
  pub entered : (token'.pass.entered ≡ true) ↔ ((q : ℕ) × Contains book'.ledger.history (Enter token.pass.number q))
  pub stays_closed : book.desk.desk.knows.saw_closed ≡ true → ¬ SaysOpen answer
  pub cancelled_first : told_own token.pass ≡ Some Cancelled → ¬ SaysOpen answer
  pub cancelled_seen : told_own token'.pass ≡ Some Cancelled → ¬ SaysOpen answer

-- after a strike a request whose decision the Desk knew waits no more, nobody waits who did not wait, and a stopped book that did not strike is stopped
pub record AfterStrike (book : BookView) (r : ℕ) (answer : Bool) (book' : BookView) : Type 0 where
  pub told : told_of book.desk.desk.knows.told r ≢ None → (q : ℕ) → ¬ Contains (waiting book'.ledger.history q) r
  pub still_stopped : answer ≡ false → IsStopped book.ledger book.desk.desk.knows → IsStopped book'.ledger book'.desk.desk.knows
  pub nobody_new : (q r' : ℕ) → Contains (waiting book'.ledger.history q) r' → Contains (waiting book.ledger.history q) r'

-- after a hearing the Pass is in the state that it was in, and what it was told both are told
pub record AfterHear (token : PassToken) (book' : BookView) (token' : PassToken) : Type 0 where
  pub state : token'.pass.state ≡ token.pass.state
  pub told : told_own token.pass ≢ None → told_of book'.desk.desk.knows.told token.pass.number ≡ told_own token.pass
  pub told_pass : told_own token.pass ≢ None → told_own token'.pass ≡ told_own token.pass

-- the book's log, the oldest event first, with the bounds that it keeps
pub record IsLogOfBook (book : BookView) (events : List Event) : Type 0 where
  pub log : reverse events ≡ book.ledger.history
  pub balanced : (from to a b : ℕ) → from ≤ to → to ≤ length events
      → a < book.ledger.sizes.deck → b < book.ledger.sizes.deck
      → IsBacklogged events from to a → IsBacklogged events from to b
      → DifferAtMost (2 * widest book.ledger.costs) (service_in book.ledger.costs events from to a)
      (service_in book.ledger.costs events from to b)
  pub isolated : IsIsolated book.ledger.sizes.deck book.ledger.costs events
  pub waits : AreWaitsBounded book.ledger.sizes.deck book.ledger.costs events
  pub kept : IsKept book.desk.desk book.ledger
