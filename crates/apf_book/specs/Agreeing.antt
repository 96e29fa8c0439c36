-- The Desk and a history say the same.
use Rattle.std.specs.Prelude.{◌≡◌, ℕ, List, map, Some, None}
use Rattle.apf_words.specs.declared.decision.Decision.TheVariants.{Cancelled}
use Rattle.apf_history.specs.declared.events.Event.{Event}
use Rattle.apf_history.specs.declared.events.Status.TheVariants as status_is
use Rattle.apf_model.specs.Order.{status}
use Rattle.apf_gate.specs.declared.record.DeskRecord.{DeskRecord}
use Rattle.apf_gate.specs.Records.{told_of, service}
use Rattle.apf_book.specs.BookView.{logged}
use Rattle.apf_book.specs.Said.{saying, sayings}

-- the Desk is in agreement with this history, and no call runs
pub record IsDeskOf (h : List Event) (desk : DeskRecord) : Type 0 where
  -- the history says of each request what the Desk did with it
  pub did : (r : ℕ) → logged (service desk r) ≡ Some (status h r)
  pub holds_none : desk.held ≡ None
  -- the history is what the Desk's steps say, in their order
  pub said : map saying h ≡ sayings desk.knows.trace
  -- the Desk was told cancelled of each struck request
  pub struck : (r : ℕ) → status h r ≡ status_is.Struck → told_of desk.knows.told r ≡ Some Cancelled
