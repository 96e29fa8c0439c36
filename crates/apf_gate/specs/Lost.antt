-- No exchange is lost where one account has the records of all tokens.
use Rattle.std.specs.Prelude.{◌≡◌, ◌≢◌, ◌⊎◌, ℕ, ◌≤◌, Bool, true, false, List, ◌∷◌, length, All, Any, Some, None}
use Rattle.apf_words.specs.Level.{Level}
use Rattle.apf_gate.specs.declared.record.PassRecord.{PassRecord}
use Rattle.apf_gate.specs.declared.record.DeskRecord.{DeskRecord}
use Rattle.apf_gate.specs.declared.record.StationRecord.{StationRecord}
use Rattle.apf_gate.specs.declared.answers.TryTake.TheVariants as tried
use Rattle.apf_gate.specs.declared.answers.TryGrant.TheVariants as granted
use Rattle.apf_gate.specs.PassCalls.{TriesToTake}
use Rattle.apf_gate.specs.DeskCalls.{TriesToGrant, TriesToEnter}
use Rattle.apf_gate.specs.declared.answers.TryEnter.TheVariants as entered
use Rattle.apf_gate.specs.declared.answers.TrySetLimit.TheVariants as set
use Rattle.apf_gate.specs.declared.answers.Close.{Close}
use Rattle.apf_gate.specs.declared.answers.Close.TheVariants as closes
use Rattle.apf_gate.specs.declared.answers.Cancel.{Cancel}
use Rattle.apf_gate.specs.declared.answers.Cancel.TheVariants as cancels
use Rattle.apf_words.specs.declared.decision.Decision.TheVariants.{Cancelled}
use Rattle.apf_model.specs.declared.moves.Move.TheVariants as moves
use Rattle.apf_model.specs.World.{World}
use Rattle.apf_gate.specs.declared.record.Actor.TheVariants.{OfPass, OfStation}
use Rattle.apf_gate.specs.Traces.{entry, world_of, NoneOf}
use Rattle.apf_gate.specs.Steps.{Both, IsOver}
use Rattle.apf_gate.specs.StationCalls.{ClosesTo, TriesToCancel, TriesToSet}
use Rattle.apf_gate.specs.Tokens.{GateId, PassToken, StationToken}
use Rattle.apf_gate.specs.Ends.{IsEnded}

-- none of these tokens saw more steps than this many
abbrev pub PassesSawAtMost : ℕ → List PassToken → Type 0
PassesSawAtMost most passes = All (λ (t : PassToken). length t.pass.knows.trace ≤ most) passes

abbrev pub OthersSawAtMost : ℕ → ℕ → List PassToken → Type 0
OthersSawAtMost r most passes = All (λ (t : PassToken). t.pass.number ≢ r → length t.pass.knows.trace ≤ most) passes

abbrev pub StationsSawAtMost : ℕ → List StationToken → Type 0
StationsSawAtMost most stations = All (λ (t : StationToken). length t.station.knows.trace ≤ most) stations

abbrev pub OtherStationsSawAtMost : ℕ → ℕ → List StationToken → Type 0
OtherStationsSawAtMost number most stations = All (λ (t : StationToken). t.station.number ≢ number → length t.station.knows.trace ≤ most) stations

-- a Station, of these, had seen as much as any other token before the steps that made its record this
pub record SawMost (station station' : StationRecord) (desk : DeskRecord) (passes : List PassToken) (stations : List StationToken) : Type 0 where
  pub there : Any (λ (t : StationToken). t.station ≡ station') stations
  pub passes_saw : PassesSawAtMost (length station.knows.trace) passes
  pub desk_saw : length desk.knows.trace ≤ length station.knows.trace
  pub stations_saw : OtherStationsSawAtMost station.number (length station.knows.trace) stations

-- the world that a Station knows
abbrev pub seen_world : StationRecord → World
seen_world station = world_of station.knows.shape station.knows.trace

abbrev pub is_first : Close → Bool
is_first closes.First = true
is_first closes.Already = false

-- a close comes right after what the Station had seen, and answers that it is the first exactly if the level was open then
pub record ClosesAsSeen (station : StationRecord) (answer : Close) (station' : StationRecord) : Type 0 where
  pub next : station'.knows.trace ≡ entry (OfStation station.number) (Some moves.Close) ∷ station.knows.trace
  pub first : (seen_world station).is_open ≡ is_first answer

-- a cancel comes right after what the Station had seen. It decides a request that was undecided then, and answers the decision of one that was decided. Another request holds the slot only of one that was over
abbrev pub CancelsAsSeen : StationRecord → ℕ → Cancel → StationRecord → Type 0
CancelsAsSeen station r (cancels.Is answer) station' =
    (((seen_world station).decision r ≡ None) × (answer ≡ Cancelled) × (station'.knows.trace ≡ entry (OfStation station.number) (Some (moves.Decide r Cancelled)) ∷ station.knows.trace))
    ⊎ (((seen_world station).decision r ≡ Some answer) × (station'.knows.trace ≡ entry (OfStation station.number) None ∷ station.knows.trace))
CancelsAsSeen station r cancels.Other station' = IsOver (seen_world station) r × (station'.knows.trace ≡ entry (OfStation station.number) None ∷ station.knows.trace)

pub record NoneIsLost : Type 0 where
  -- a Pass that had seen as much as any other token when it tried to take its seats
  pub take : (gate : GateId) (desk : DeskRecord) (passes : List PassToken) (stations : List StationToken) (level : Level) (pass pass' : PassRecord) → IsEnded gate desk passes stations level
      → Any (λ (t : PassToken). t.pass ≡ pass') passes → OthersSawAtMost pass.number (length pass.knows.trace) passes → length desk.knows.trace ≤ length pass.knows.trace → StationsSawAtMost (length pass.knows.trace) stations
      → ¬ TriesToTake pass tried.Raced pass'
  -- the Desk, that had seen as much as any other token when it tried to grant
  pub grant : (gate : GateId) (desk desk' : DeskRecord) (passes : List PassToken) (stations : List StationToken) (level : Level) (r : ℕ) → IsEnded gate desk' passes stations level
      → PassesSawAtMost (length desk.knows.trace) passes → StationsSawAtMost (length desk.knows.trace) stations
      → ¬ TriesToGrant desk r granted.Raced desk'
  -- the Desk with a Pass joined, that had seen as much as any other when they tried to enter. The Pass made a step before
  pub enter : (gate : GateId) (passes : List PassToken) (stations : List StationToken) (level : Level) (both both' : Both) → IsEnded gate both'.desk passes stations level
      → OthersSawAtMost both.pass.number (length both.desk.knows.trace) passes → StationsSawAtMost (length both.desk.knows.trace) stations → ¬ NoneOf (OfPass both.pass.number) both.pass.knows.trace
      → ¬ TriesToEnter both entered.Raced both'
  -- a Station that had seen as much as any other token when it tried to set the limit
  pub set_limit : (gate : GateId) (desk : DeskRecord) (passes : List PassToken) (stations : List StationToken) (level : Level) (limit : ℕ) (station station' : StationRecord) → IsEnded gate desk passes stations level
      → SawMost station station' desk passes stations → ¬ TriesToSet station limit set.Raced station'
  -- a close and a cancel are one step each, and answer by what it finds. That of such a Station finds what the Station had seen
  pub close : (gate : GateId) (desk : DeskRecord) (passes : List PassToken) (stations : List StationToken) (level : Level) (answer : Close) (station station' : StationRecord) → IsEnded gate desk passes stations level
      → SawMost station station' desk passes stations → ClosesTo station answer station' → ClosesAsSeen station answer station'
  pub cancel : (gate : GateId) (desk : DeskRecord) (passes : List PassToken) (stations : List StationToken) (level : Level) (r : ℕ) (answer : Cancel) (station station' : StationRecord) → IsEnded gate desk passes stations level
      → SawMost station station' desk passes stations → TriesToCancel station r answer station' → CancelsAsSeen station r answer station'
