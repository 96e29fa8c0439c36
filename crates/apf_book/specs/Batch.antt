-- A batch's book, over a book for life: what each request asks for is known beforehand, and none of its events is forgotten.
use Rattle.std.specs.Prelude.{◌≡◌, ℕ, ◌*◌, ◌≤◌, Bool, true, false, List, length, reverse, slice_index_or}
use Rattle.apf_words.specs.Limits.{max_requests}
use Rattle.apf_flow.specs.Sizes.{Sizes}
use Rattle.apf_history.specs.declared.events.Event.{Event}
use Rattle.apf_model.specs.declared.response.Response.TheVariants.{Queue}
use Rattle.apf_model.specs.History.{has_arrived}
use Rattle.apf_model.specs.Schedule.{AreCosts}
use Rattle.apf_model.specs.Charged.{log_of}
use Rattle.apf_gate.specs.Tokens.{GateId, desk_gate}
use Rattle.apf_book.specs.LedgerView.{LedgerView, hand_in}
use Rattle.apf_book.specs.Life.{LifeView}
use Rattle.apf_book.specs.LifeBook.{LifeBookView, IsLifeKept}

-- the history of a log, with the hands and costs that the batch began with
abbrev pub life_of : LedgerView → LifeView
life_of v = record { history = v.history; log = log_of v.history; costs = v.costs; hands = hand_in v; queues = v.sizes.deck; limit = v.limit }

-- the log of a batch, with what its queues were made of
abbrev pub ledger_with : LifeBookView → Sizes → List ℕ → List ℕ → List Event → LedgerView
ledger_with b sizes costs hashes log = record { history = reverse log; costs = costs; hashes = hashes; sizes = sizes; limit = b.queues.queues.length_limit }

-- the gate is of a batch with queues: each request has a slot of its own
pub record IsBatchGate (gate : GateId) (requests : ℕ) : Type 0 where
  pub has_queues : gate.shape.response ≡ Queue
  pub batch : length gate.shape.widths ≡ gate.shape.slots
  pub one_slot_each : gate.shape.slots ≡ requests

-- the book is of this log, all of whose events it keeps, and the log has room for all that can come
pub record IsBatchBook (v : LedgerView) (b : LifeBookView) (arrived : List Bool) (capacity : ℕ) : Type 0 where
  pub kept : IsLifeKept (life_of v) b
  pub known : b.queues.known ≡ true
  pub gate : IsBatchGate (desk_gate b.desk) (length v.costs)
  pub costs : AreCosts v.costs
  pub few : length v.costs ≤ max_requests
  pub one_hash_each : length v.hashes ≡ length v.costs
  pub marked : (r : ℕ) → slice_index_or arrived r false ≡ has_arrived v.history r
  pub one_mark_each : length arrived ≡ length v.costs
  -- two events for each request
  pub keeps : b.notes.capacity ≡ 2 * length v.costs
  pub room : 2 * length v.costs ≤ capacity
