-- What the end of a session tells.
use Rattle.std.specs.Prelude.{◌≡◌, ◌≢◌, ℕ, ◌<◌, Bool, true, false, List, length, map, filter, reverse, slice_get, slice_index_or, None}
use Rattle.std.specs.List.{FoldsTo}
use Rattle.apf_words.specs.declared.decision.Decision.{Decision}
use Rattle.apf_model.specs.Outcome.{stats_of}
use Rattle.apf_gate.specs.declared.record.StationRecord.{StationRecord}
use Rattle.apf_gate.specs.StationCalls.{CancelsTo}
use Rattle.apf_gate.specs.Tokens.{PassToken, StationToken}
use Rattle.apf_book.specs.LedgerKept.{AreStats}
use Rattle.apf_level.specs.declared.report.Report.{Report}
use Rattle.apf_level.specs.Levels.{LevelId}
use Rattle.apf_level.specs.Reports.{AreSums, Ended}
use Rattle.apf_session.specs.declared.answer.Place.{Place}
use Rattle.apf_session.specs.declared.answer.Place.TheVariants as places
use Rattle.apf_session.specs.Operators.{KeepsOrder, FirstMakes}
use Rattle.apf_session.specs.Requests.{RequestView, place_of, told_by}

-- the report is that of this level, whose Passes and Stations were all handed in
pub record HasEnded (k : LevelId) (r : Report) : Type 0 where
  pub passes : List PassToken
  pub stations : List StationToken
  pub ended : Ended k r.word (slice_get r.decisions.items) (reverse r.log.items) passes stations
  pub all_decided : length r.decisions.items ≡ length k.gate.shape.widths
  pub sums : AreSums r.counts (slice_get r.decisions.items) (length r.decisions.items)
  pub stats : AreStats r.stats (stats_of k.opening.sizes.deck (reverse r.log.items))

-- the report's decision of each of these requests that was told one is that one
abbrev pub TellsTheSame : List RequestView → Report → Type 0
TellsTheSame requests r = (i : ℕ) (d : RequestView) → i < length requests → told_by (slice_index_or requests i d).token ≢ None
    → slice_get r.decisions.items (slice_index_or requests i d).number ≡ told_by (slice_index_or requests i d).token

-- whether a request that is at this place was told no decision
abbrev pub is_undecided : Place → Bool
is_undecided places.Away = true
is_undecided places.Waits = true
is_undecided places.Runs = false
is_undecided places.Over = false

-- the numbers of those of these requests that did not arrive, or wait, in their order
abbrev pub undecided : List RequestView → List ℕ
undecided requests = map (λ (r : RequestView). r.number) (filter (λ (r : RequestView). is_undecided (place_of r.token)) requests)

-- one attempt to cancel the request
abbrev pub AttemptsToCancel : StationRecord → ℕ → StationRecord → Type 0
AttemptsToCancel station r station' = (answer : Decision) × CancelsTo station r answer station'

-- one attempt to cancel each of these requests, one after another, and no other step
abbrev pub CancelsThese : List ℕ → StationRecord → StationRecord → Type 0
CancelsThese requests station station' = FoldsTo AttemptsToCancel station requests station'

-- the first of these operators, if there is one, tried to cancel each of these requests that is undecided, and made no other step
abbrev pub FirstCancels : List RequestView → List StationToken → List StationToken → Type 0
FirstCancels requests operators stations = FirstMakes (CancelsThese (undecided requests)) operators stations

-- the end of a session with these requests and operators
pub record SessionEnds (k : LevelId) (requests : List RequestView) (operators : List StationToken) (r : Report) : Type 0 where
  pub ended : HasEnded k r
  pub told : TellsTheSame requests r
  pub order : KeepsOrder operators ended.stations
  pub cancels : FirstCancels requests operators ended.stations
