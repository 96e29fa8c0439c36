-- What the end of a session tells.
use Rattle.std.specs.Prelude.{ℕ, Bool, true, false, List, map, filter}
use Rattle.std.specs.List.{FoldsTo}
use Rattle.apf_gate.specs.declared.record.StationRecord.{StationRecord}
use Rattle.apf_gate.specs.declared.answers.Cancel.{Cancel}
use Rattle.apf_gate.specs.StationCalls.{TriesToCancel}
use Rattle.apf_gate.specs.Tokens.{PassToken, StationToken}
use Rattle.apf_line.specs.declared.report.Report.{Report}
use Rattle.apf_line.specs.Levels.{LifeId}
use Rattle.apf_line.specs.Reports.{Ended}
use Rattle.apf_session.specs.declared.life.token.Token.{Token}
use Rattle.apf_session.specs.declared.life.answer.Place.{Place}
use Rattle.apf_session.specs.declared.life.answer.Place.TheVariants as places
use Rattle.apf_session.specs.LifeRequests.{number_in, place_of}
use Rattle.apf_session.specs.Operators.{KeepsOrder, FirstMakes}

-- whether a request that is at this place waits
abbrev pub is_waiting : Place → Bool
is_waiting places.Free = false
is_waiting places.Waits = true
is_waiting places.Runs = false

-- the numbers of those requests of these slots that wait, in their order
abbrev pub waiting : List Token → List ℕ
waiting slots = map number_in (filter (λ (t : Token). is_waiting (place_of t)) slots)

-- one attempt to cancel the request
abbrev pub AttemptsToCancel : StationRecord → ℕ → StationRecord → Type 0
AttemptsToCancel station r station' = (answer : Cancel) × TriesToCancel station r answer station'

-- one attempt to cancel each of these requests, one after another, and no other step
abbrev pub CancelsThese : List ℕ → StationRecord → StationRecord → Type 0
CancelsThese requests station station' = FoldsTo AttemptsToCancel station requests station'

-- the first of these operators, if there is one, tried to cancel each request of these slots that waits, and made no other step
abbrev pub FirstCancels : List Token → List StationToken → List StationToken → Type 0
FirstCancels slots operators stations = FirstMakes (CancelsThese (waiting slots)) operators stations

-- the report is that of this level, whose slots and Stations were all handed in; the Stations are those of these operators, of which the first only cancelled what waits in these slots
pub record SessionEnds (k : LifeId) (held : List Token) (operators : List StationToken) (r : Report) : Type 0 where
  pub slots : List PassToken
  pub stations : List StationToken
  pub ended : Ended k slots stations r
  pub order : KeepsOrder operators stations
  pub cancels : FirstCancels held operators stations
