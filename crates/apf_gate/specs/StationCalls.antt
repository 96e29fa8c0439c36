-- What the calls of a Station answer, by its record.
use Rattle.std.specs.Prelude.{◌≡◌, ◌≢◌, ◌⊎◌, ℕ, ◌==◌, not, true, false, Some}
use Rattle.apf_words.specs.Level.{Level}
use Rattle.apf_words.specs.declared.decision.Decision.{Decision}
use Rattle.apf_words.specs.declared.decision.Decision.TheVariants.{Cancelled}
use Rattle.apf_gate.specs.declared.record.StationRecord.{StationRecord}
use Rattle.apf_gate.specs.declared.answers.Close.{Close}
use Rattle.apf_gate.specs.declared.answers.Close.TheVariants as closed
use Rattle.apf_gate.specs.declared.answers.Read.{Read}
use Rattle.apf_gate.specs.declared.answers.Read.TheVariants as reads
use Rattle.apf_gate.specs.declared.answers.Cancel.{Cancel}
use Rattle.apf_gate.specs.declared.answers.Cancel.TheVariants as cancels
use Rattle.apf_gate.specs.declared.answers.TrySetLimit.{TrySetLimit}
use Rattle.apf_gate.specs.declared.answers.TrySetLimit.TheVariants as set
use Rattle.apf_gate.specs.StationSteps.{StationLoadsLevel, StationExchangesLevel, StationClosesLevel, StationLoadsDecision, StationExchangesDecision, StationFindsOther}

-- one load: the request's decision, or another request holds its slot
abbrev pub TriesToRead : StationRecord → ℕ → Read → StationRecord → Type 0
TriesToRead station r (reads.Is found) station' = StationLoadsDecision r station found station'
TriesToRead station r reads.Other station' = StationFindsOther r station station'

-- one exchange: cancelled was written, or another decision was found, and that is the answer
abbrev pub CancelsTo : StationRecord → ℕ → Decision → StationRecord → Type 0
CancelsTo station r answer station' = (StationExchangesDecision r station station' × (answer ≡ Cancelled)) ⊎ StationLoadsDecision r station (Some answer) station'

-- the same where the request holds its slot; or another request does, and nothing was written
abbrev pub TriesToCancel : StationRecord → ℕ → Cancel → StationRecord → Type 0
TriesToCancel station r (cancels.Is answer) station' = CancelsTo station r answer station'
TriesToCancel station r cancels.Other station' = StationFindsOther r station station'

-- one step, and whether it found the level open
abbrev pub ClosesTo : StationRecord → Close → StationRecord → Type 0
ClosesTo station closed.First station' = (level : Level) × StationClosesLevel station level station' × (level.closed ≡ false)
ClosesTo station closed.Already station' = (level : Level) × StationClosesLevel station level station' × (level.closed ≡ true)

-- one load, and an exchange of what it found
abbrev pub TriesToSet : StationRecord → ℕ → TrySetLimit → StationRecord → Type 0
TriesToSet station limit (set.Set old waiting) station' = (level : Level) × (old ≡ level.limit) × (waiting ≡ not (level.waiters == 0)) × ((between : StationRecord) × StationLoadsLevel station level between × StationExchangesLevel limit between level station')
TriesToSet station limit set.Raced station' = (level other : Level) × (other ≢ level) × ((between : StationRecord) × StationLoadsLevel station level between × StationLoadsLevel between other station')
