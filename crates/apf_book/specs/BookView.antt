-- The Desk and the log agree.
use Rattle.std.specs.Prelude.{◌≡◌, ℕ, length, map, Option, Some, None}
use Rattle.apf_words.specs.declared.decision.Decision.TheVariants.{Cancelled}
use Rattle.apf_model.specs.declared.response.Response.TheVariants.{Queue}
use Rattle.apf_history.specs.declared.events.Status.{Status}
use Rattle.apf_history.specs.declared.events.Status.TheVariants as status_is
use Rattle.apf_model.specs.Order.{status}
use Rattle.apf_gate.specs.declared.record.Service.{Service}
use Rattle.apf_gate.specs.declared.record.Service.TheVariants.{NotHanded, Handed, RefusedFull, RefusedClosed, Waiting, Held, Settled, Left}
use Rattle.apf_gate.specs.declared.record.DeskRecord.{DeskRecord}
use Rattle.apf_gate.specs.Records.{told_of, service}
use Rattle.apf_gate.specs.Tokens.{DeskToken}
use Rattle.apf_book.specs.LedgerView.{LedgerView, IsLogOf}
use Rattle.apf_book.specs.Said.{saying, sayings}

-- a book, as contracts see it: the Desk, and the log with what its queues were made of
pub record BookView : Type 0 where
  pub desk : DeskToken
  pub ledger : LedgerView

-- what the log says of a request with which the Desk did this. Of one whose seats the Desk holds it says nothing
abbrev pub logged : Service → Option Status
logged NotHanded = Some status_is.Away
logged Handed = Some status_is.Away
logged RefusedFull = Some status_is.Full
logged RefusedClosed = Some status_is.Away
logged Waiting = Some status_is.Waits
logged Held = None
logged Settled = Some status_is.Dispatched
logged Left = Some status_is.Struck

-- what keeps the Desk and the log in agreement, whenever no call of the book runs
pub record IsKept (desk : DeskRecord) (v : LedgerView) : Type 0 where
  pub of_log : IsLogOf v
  -- the log says of each request what the Desk did with it
  pub did : (r : ℕ) → logged (service desk r) ≡ Some (status v.history r)
  pub holds_none : desk.held ≡ None
  -- the log is what the Desk's steps say, in their order
  pub said : map saying v.history ≡ sayings desk.knows.trace
  -- the Desk was told cancelled of each struck request
  pub struck : (r : ℕ) → status v.history r ≡ status_is.Struck → told_of desk.knows.told r ≡ Some Cancelled
  pub one_cost_each : length v.costs ≡ length desk.knows.shape.widths
  pub has_queues : desk.knows.shape.response ≡ Queue
  -- a batch: each request has a slot of its own
  pub batch : length desk.knows.shape.widths ≡ desk.knows.shape.slots
