-- What the requests of a run ask of the workers' Stations.
use Rattle.std.specs.Prelude.{◌≡◌, ℕ, true, false, Bool, List, length, Any, Option, Some, None, slice_get}
use Rattle.apf_model.specs.declared.moves.Move.TheVariants.{SetLimit}
use Rattle.apf_files.specs.declared.requests.Request.{Request}
use Rattle.apf_gate.specs.declared.record.Actor.TheVariants.{OfStation}
use Rattle.apf_gate.specs.Traces.{Made}
use Rattle.apf_gate.specs.Tokens.{GateId, StationToken, station_gate}
use Rattle.apf_gate.specs.Ends.{WroteCancelled, ClosedFirst}

-- some request names r to be cancelled
abbrev pub IsNamed : List Request → ℕ → Type 0
IsNamed requests r = Any (λ (q : Request). q.cancels ≡ Some r) requests

-- some request closes the level
abbrev pub SomeCloses : List Request → Type 0
SomeCloses requests = Any (λ (q : Request). q.closes ≡ true) requests

-- whether this is a request that closes the level
abbrev pub closes_it : Option Request → Bool
closes_it (Some request) = request.closes
closes_it None = false

-- whether the request of this number closes the level
abbrev pub closes_at : List Request → ℕ → Bool
closes_at requests r = closes_it (slice_get requests r)

-- the Station set this limit
abbrev pub SetTo : ℕ → StationToken → Type 0
SetTo limit s = Made s.station.knows.trace (OfStation s.station.number) (SetLimit limit)

-- the Station is of this gate, cancelled only requests of this kind, closed first only if some request closes, and set no limit
pub record KeepsTo (gate : GateId) (may_cancel : ℕ → Type 0) (requests : List Request) (s : StationToken) : Type 0 where
  pub own : station_gate s ≡ gate
  pub cancels : (r : ℕ) → WroteCancelled r s → may_cancel r
  pub closes : ClosedFirst s → SomeCloses requests
  pub limits : (limit : ℕ) → ¬ SetTo limit s

-- the Station keeps to the requests, and cancelled only whom some request names
abbrev pub IsFaithful : GateId → List Request → StationToken → Type 0
IsFaithful gate requests s = KeepsTo gate (IsNamed requests) requests s

-- the requests are those of the plan, one for each width of the gate
pub record AreOrders (gate : GateId) (plan requests : List Request) : Type 0 where
  pub is : requests ≡ plan
  pub each : length requests ≡ length gate.shape.widths
