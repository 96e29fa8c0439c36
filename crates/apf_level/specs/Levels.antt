-- Which level it is.
use Rattle.std.specs.Prelude.{◌≡◌, List, [], None, length}
use Rattle.atomic_table.specs.Seated.{TableId}
use Rattle.apf_history.specs.declared.events.Event.{Event}
use Rattle.apf_model.specs.declared.response.Response.TheVariants.{Reject}
use Rattle.apf_gate.specs.Tokens.{GateId, DeskToken, desk_gate}
use Rattle.apf_gate.specs.Gauges.{IsShape}
use Rattle.apf_book.specs.LedgerView.{LedgerView, IsLogOf}
use Rattle.apf_book.specs.BookView.{BookView}

-- its gate, the ledger that it was opened with, and the cell of its statistics
pub record LevelId : Type 0 where
  pub gate : GateId
  pub opening : LedgerView
  pub cell : TableId

-- a level, as contracts see it: its gate, and the cell of its statistics
pub record LevelView : Type 0 where
  pub gate : GateId
  pub cell : TableId

-- the level's ledger once its log is this, the newest event first
abbrev pub logged_as : LevelId → List Event → LedgerView
logged_as k h = record k.opening { history = h }

-- the gate, and the cell that is read, are this level's
pub record IsLevelOf (k : LevelId) (gate : GateId) (read : TableId) : Type 0 where
  pub same : gate ≡ k.gate
  pub shape : IsShape gate.shape
  -- a batch: each request has a slot of its own
  pub batch : length gate.shape.widths ≡ gate.shape.slots
  pub cell : read ≡ k.cell

-- the book is this level's: its Desk is of the level's gate, and its ledger began as the level's
pub record IsBookOf (k : LevelId) (b : BookView) : Type 0 where
  pub gate : desk_gate b.desk ≡ k.gate
  pub ledger : b.ledger ≡ logged_as k b.ledger.history

-- the Desk is that of this level, which has no queues: it served nobody
pub record IsIdleOf (k : LevelId) (d : DeskToken) : Type 0 where
  pub no_queues : k.gate.shape.response ≡ Reject
  pub gate : desk_gate d ≡ k.gate
  pub served_none : d.desk.services ≡ []
  pub holds_none : d.desk.held ≡ None
  -- the log stays empty
  pub of_log : IsLogOf (logged_as k [])

-- the level has no queues, and its log stays empty
pub record HasNoQueues (k : LevelId) : Type 0 where
  pub response : k.gate.shape.response ≡ Reject
  pub of_log : IsLogOf (logged_as k [])
