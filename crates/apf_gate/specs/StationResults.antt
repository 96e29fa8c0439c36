-- What a caller may rely on after each call of a Station. All of it follows from the call's steps.
use Rattle.std.specs.Prelude.{◌≡◌, ◌≢◌, ℕ, true, Option, Some, None}
use Rattle.apf_words.specs.Level.{Level}
use Rattle.apf_words.specs.declared.decision.Decision.{Decision}
use Rattle.apf_gate.specs.declared.record.StationRecord.{StationRecord}
use Rattle.apf_gate.specs.declared.answers.Read.{Read}
use Rattle.apf_gate.specs.declared.answers.Read.TheVariants as reads
use Rattle.apf_gate.specs.declared.answers.Cancel.{Cancel}
use Rattle.apf_gate.specs.declared.answers.Cancel.TheVariants as cancels
use Rattle.apf_gate.specs.declared.answers.Close.{Close}
use Rattle.apf_gate.specs.declared.answers.Close.TheVariants as closes
use Rattle.apf_gate.specs.Records.{told_of, KnowsMore}
use Rattle.apf_gate.specs.Steps.{IsInRange}
use Rattle.apf_gate.specs.Tokens.{StationToken, station_gate}

-- it is still the same Station of the same gate, and knows more than it did
pub record SameStation (token token' : StationToken) : Type 0 where
  pub gate : station_gate token' ≡ station_gate token
  pub number : token'.station.number ≡ token.station.number
  pub more : KnowsMore token.station.knows token'.station.knows

-- after a look the numbers of the level word are in range. A level that was seen closed is closed
pub record AfterLook (station : StationRecord) (level : Level) (station' : StationRecord) : Type 0 where
  pub in_range : IsInRange level
  pub closed : level.closed ≡ true → station'.knows.saw_closed ≡ true
  pub stays_closed : station.knows.saw_closed ≡ true → level.closed ≡ true

-- after reading a request's decision the Station was told it. What it was told before is found again
pub record AfterRead (station : StationRecord) (r : ℕ) (answer : Option Decision) (station' : StationRecord) : Type 0 where
  pub told : answer ≢ None → told_of station'.knows.told r ≡ answer
  pub stays : told_of station.knows.told r ≢ None → answer ≡ told_of station.knows.told r

-- the same where the request held its slot
abbrev pub AfterTryRead : StationRecord → ℕ → Read → StationRecord → Type 0
AfterTryRead station r answer station' = (found : Option Decision) → answer ≡ reads.Is found → AfterRead station r found station'

-- after a cancel the Station was told the request's decision. What it was told before is found again
pub record AfterCancel (station : StationRecord) (r : ℕ) (answer : Decision) (station' : StationRecord) : Type 0 where
  pub told : told_of station'.knows.told r ≡ Some answer
  pub stays : told_of station.knows.told r ≢ None → Some answer ≡ told_of station.knows.told r

-- the same where the request held its slot
abbrev pub AfterTryCancel : StationRecord → ℕ → Cancel → StationRecord → Type 0
AfterTryCancel station r answer station' = (found : Decision) → answer ≡ cancels.Is found → AfterCancel station r found station'

-- after a close the Station saw the level closed. If it saw that before, this close was not the first
pub record AfterClose (station : StationRecord) (answer : Close) (station' : StationRecord) : Type 0 where
  pub closed : station'.knows.saw_closed ≡ true
  pub stays_closed : station.knows.saw_closed ≡ true → answer ≡ closes.Already
