-- What the calls of the Desk, alone or with a Pass joined to it, ask and answer, by their records.
use Rattle.std.specs.Prelude.{◌≡◌, ◌≢◌, ◌⊎◌, ℕ, true, false, Some}
use Rattle.apf_words.specs.Fits.{Fits}
use Rattle.apf_words.specs.Level.{Level}
use Rattle.apf_words.specs.declared.decision.Decision.{Decision}
use Rattle.apf_words.specs.declared.decision.Decision.TheVariants.{Execute, QueueFull, Closed, Cancelled, ConcurrencyLimit}
use Rattle.apf_model.specs.World.{width}
use Rattle.apf_gate.specs.declared.record.State.TheVariants.{InLine}
use Rattle.apf_gate.specs.declared.record.Service.TheVariants.{RefusedFull}
use Rattle.apf_gate.specs.declared.record.DeskRecord.{DeskRecord}
use Rattle.apf_gate.specs.declared.answers.TryEnter.{TryEnter}
use Rattle.apf_gate.specs.declared.answers.TryEnter.TheVariants as entered
use Rattle.apf_gate.specs.declared.answers.TryGrant.{TryGrant}
use Rattle.apf_gate.specs.declared.answers.TryGrant.TheVariants as granted
use Rattle.apf_gate.specs.Steps.{Both}
use Rattle.apf_gate.specs.DeskSteps.{DeskLoadsLevel, DeskExchangesLevel, DeskExchangesDecision, DeskMissesDecision}
use Rattle.apf_gate.specs.JoinedSteps.{joined_service, JoinedLoadsLevel, JoinedExchangesLevel, JoinedExchangesDecision, JoinedMissesDecision}

-- one load, and where it showed room an exchange
abbrev pub TriesToGrant : DeskRecord → ℕ → TryGrant → DeskRecord → Type 0
TriesToGrant desk r granted.NoRoom desk' = (level : Level) × DeskLoadsLevel desk level desk' × (¬ Fits level.seats level.limit (width desk.knows.shape.widths r))
TriesToGrant desk r granted.Granted desk' = (level : Level) × Fits level.seats level.limit (width desk.knows.shape.widths r) × ((between : DeskRecord) × DeskLoadsLevel desk level between × DeskExchangesLevel r between level desk')
TriesToGrant desk r granted.Raced desk' = (level other : Level) × (other ≢ level) × Fits level.seats level.limit (width desk.knows.shape.widths r) × ((between : DeskRecord) × DeskLoadsLevel desk level between × DeskLoadsLevel between other desk')

-- one exchange: execute was written of the request that the Desk held, or it was found cancelled
abbrev pub SettlesTo : DeskRecord → Decision → DeskRecord → Type 0
SettlesTo desk answer desk' = (r : ℕ) × (desk.held ≡ Some r) × ((DeskExchangesDecision r desk desk' × (answer ≡ Execute)) ⊎ (DeskMissesDecision r desk (Some Cancelled) desk' × (answer ≡ Cancelled)))

-- a Pass may hand its request to the Desk: it is in line, its request never entered, and was not refused as full
pub record MayHand (both : Both) : Type 0 where
  pub in_line : both.pass.state ≡ InLine
  pub not_entered : both.pass.entered ≡ false
  pub not_full : joined_service both ≢ RefusedFull

-- the Desk may refuse with this: as full, or as closed where it saw the level closed
abbrev pub MayRefuse : DeskRecord → Decision → Type 0
MayRefuse desk Execute = ⊥
MayRefuse desk QueueFull = Unit {0}
MayRefuse desk Closed = desk.knows.saw_closed ≡ true
MayRefuse desk Cancelled = ⊥
MayRefuse desk ConcurrencyLimit = ⊥

-- by the joined token: one load, and where the level was open an exchange
abbrev pub TriesToEnter : Both → TryEnter → Both → Type 0
TriesToEnter both entered.Closed both' = (level : Level) × JoinedLoadsLevel both level both' × (level.closed ≡ true)
TriesToEnter both entered.Entered both' = (level : Level) × (level.closed ≡ false) × ((between : Both) × JoinedLoadsLevel both level between × JoinedExchangesLevel between level both')
TriesToEnter both entered.Raced both' = (level other : Level) × (other ≢ level) × (level.closed ≡ false) × ((between : Both) × JoinedLoadsLevel both level between × JoinedLoadsLevel between other both')

-- by the joined token: one exchange wrote the refusal, or found another decision, and that is the answer
abbrev pub RefusesTo : Both → Decision → Decision → Both → Type 0
RefusesTo both decision answer both' = (JoinedExchangesDecision decision both both' × (answer ≡ decision)) ⊎ JoinedMissesDecision both (Some answer) both'
