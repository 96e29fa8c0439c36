-- Where a log stands among the steps by which requests take their seats and give them back.
use Rattle.std.specs.Prelude.{◌≡◌, ℕ, ◌++◌, List, [], ◌∷◌, map}
use Rattle.apf_history.specs.declared.events.Event.{Event}
use Rattle.apf_history.specs.declared.events.LogEntry.{LogEntry}
use Rattle.apf_history.specs.declared.events.LogEntry.TheVariants.{Happens, Spends, Settles}
use Rattle.apf_model.specs.World.{IsStanding}
use Rattle.apf_model.specs.Charged.{events, runs, IsAmong, AreMeasures}
use Rattle.apf_gate.specs.declared.record.Entry.{Entry}
use Rattle.apf_gate.specs.declared.record.Shape.{Shape}
use Rattle.apf_gate.specs.Traces.{world_of}
use Rattle.apf_book.specs.Said.{saying, sayings}

-- at a moment of these steps by which all of this history had happened, the request held its seats
pub record HeldSeats (shape : Shape) (trace : List Entry) (h : List Event) (r : ℕ) : Type 0 where
  pub at : List Entry
  pub is_beginning : (later : List Entry) × (later ++ at ≡ trace)
  pub had_come : (newer : List Event) × (map saying (newer ++ h) ≡ sayings at)
  pub stood : IsStanding (world_of shape at) r

-- each request that was settled, or charged more while it ran, held its seats at that place of the log or later
abbrev pub AreSeated : Shape → List Entry → List LogEntry → Type 0
AreSeated shape trace [] = Unit {0}
AreSeated shape trace (Happens e ∷ l) = AreSeated shape trace l
AreSeated shape trace (Spends r q old new ∷ l) = HeldSeats shape trace (events l) r × AreSeated shape trace l
AreSeated shape trace (Settles r q old new ∷ l) = HeldSeats shape trace (events l) r × AreSeated shape trace l

-- this is what requests took, by a whole log: as much as was settled, or, of one that was never settled, what its queue was charged for it
pub record AreAllMeasured (measure : ℕ → ℕ) (costs : List ℕ) (l : List LogEntry) : Type 0 where
  pub settled : AreMeasures measure l
  pub unsettled : (r charge q : ℕ) → IsAmong r charge (runs costs l q) → charge ≡ measure r
