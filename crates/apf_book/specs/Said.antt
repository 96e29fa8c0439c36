-- What the Desk's steps say of requests, in their order.
use Rattle.std.specs.Prelude.{◌≡◌, ℕ, ◌++◌, List, [], ◌∷◌, Option, Some, None}
use Rattle.apf_words.specs.declared.decision.Decision.TheVariants.{Execute, QueueFull, Closed, Cancelled, ConcurrencyLimit}
use Rattle.apf_history.specs.declared.events.Event.{Event}
use Rattle.apf_history.specs.declared.events.Status.{Status}
use Rattle.apf_history.specs.declared.events.Status.TheVariants as status_is
use Rattle.apf_model.specs.History.{request_of}
use Rattle.apf_model.specs.Order.{makes}
use Rattle.apf_model.specs.declared.moves.Move.{Move}
use Rattle.apf_model.specs.declared.moves.Move.TheVariants.{Take, Enter, Grant, Leave, Decide, Release, Close, SetLimit, See}
use Rattle.apf_gate.specs.declared.record.Actor.{Actor}
use Rattle.apf_gate.specs.declared.record.Actor.TheVariants.{OfPass, OfDesk, OfStation}
use Rattle.apf_gate.specs.declared.record.Entry.{Entry}
use Rattle.apf_gate.specs.declared.record.Knowledge.{Knowledge}
use Rattle.apf_book.specs.declared.handing.Handed.{Handed}
use Rattle.apf_book.specs.declared.handing.Handed.TheVariants as handed
use Rattle.apf_book.specs.declared.serving.Served.{Served}
use Rattle.apf_book.specs.declared.serving.Served.TheVariants as served

-- a step of the Desk: what it makes of its request
abbrev pub said_by : Option Move → List (ℕ × Status)
said_by None = []
said_by (Some (Take r)) = []
said_by (Some (Enter r)) = (r, status_is.Waits) ∷ []
said_by (Some (Grant r)) = []
said_by (Some (Leave r)) = (r, status_is.Struck) ∷ []
said_by (Some (Decide r Execute)) = (r, status_is.Dispatched) ∷ []
said_by (Some (Decide r QueueFull)) = (r, status_is.Full) ∷ []
said_by (Some (Decide r Closed)) = []
said_by (Some (Decide r Cancelled)) = []
said_by (Some (Decide r ConcurrencyLimit)) = []
said_by (Some (Release r)) = (r, status_is.Struck) ∷ []
said_by (Some Close) = []
said_by (Some (SetLimit n)) = []
said_by (Some (See r)) = []

abbrev pub said_of : Actor → Option Move → List (ℕ × Status)
said_of (OfPass r) step = []
said_of OfDesk step = said_by step
said_of (OfStation k) step = []

-- the sayings of a trace, the newest first
abbrev pub sayings : List Entry → List (ℕ × Status)
sayings [] = []
sayings (e ∷ trace) = said_of e.by e.step ++ sayings trace

-- what an event says
abbrev pub saying : Event → ℕ × Status
saying e = (request_of e, makes e)

-- the Desk's steps since then said this
pub record Says (new : List (ℕ × Status)) (known known' : Knowledge) : Type 0 where
  pub is : sayings known'.trace ≡ new ++ sayings known.trace

abbrev pub said_handing : Handed → ℕ → List (ℕ × Status)
said_handing handed.Entered r = (r, status_is.Waits) ∷ []
said_handing handed.Full r = (r, status_is.Full) ∷ []
said_handing handed.Closed r = []
said_handing handed.Cancelled r = []
said_handing handed.Raced r = []

abbrev pub said_serving : Served → ℕ → List (ℕ × Status)
said_serving served.Dispatched r = (r, status_is.Dispatched) ∷ []
said_serving served.Struck r = (r, status_is.Struck) ∷ []
said_serving served.NoRoom r = []
said_serving served.Raced r = []
