-- What the calls of a Pass ask and answer, by its record.
use Rattle.std.specs.Prelude.{◌≡◌, ◌≢◌, ◌⊎◌, true, false, Some, None}
use Rattle.apf_words.specs.Fits.{Fits}
use Rattle.apf_words.specs.Level.{Level}
use Rattle.apf_words.specs.declared.decision.Decision.{Decision}
use Rattle.apf_words.specs.declared.decision.Decision.TheVariants.{Execute, QueueFull, Closed, Cancelled, ConcurrencyLimit}
use Rattle.apf_model.specs.declared.response.Response.TheVariants.{Reject}
use Rattle.apf_gate.specs.declared.record.State.TheVariants.{Fresh, Took, InLine}
use Rattle.apf_gate.specs.declared.record.PassRecord.{PassRecord}
use Rattle.apf_gate.specs.declared.answers.TryTake.{TryTake}
use Rattle.apf_gate.specs.declared.answers.TryTake.TheVariants as tried
use Rattle.apf_gate.specs.Records.{told_own, own_width}
use Rattle.apf_gate.specs.PassSteps.{PassLoadsLevel, PassMissesLevel, PassExchangesLevel, PassExchangesDecision, PassMissesDecision}

-- one load, and where it showed room an exchange
abbrev pub TriesToTake : PassRecord → TryTake → PassRecord → Type 0
TriesToTake pass tried.Closed pass' = (level : Level) × PassLoadsLevel pass level pass' × (level.closed ≡ true)
TriesToTake pass tried.Waiters pass' = (level : Level) × PassLoadsLevel pass level pass' × (level.closed ≡ false) × (level.waiters ≢ 0)
TriesToTake pass tried.NoRoom pass' = (level : Level) × PassLoadsLevel pass level pass' × (level.closed ≡ false) × (level.waiters ≡ 0) × (¬ Fits level.seats level.limit (own_width pass))
TriesToTake pass tried.Taken pass' = (level : Level) × (level.closed ≡ false) × (level.waiters ≡ 0) × Fits level.seats level.limit (own_width pass)
    × ((between : PassRecord) × PassLoadsLevel pass level between × PassExchangesLevel between level pass')
TriesToTake pass tried.Raced pass' = (level other : Level) × (other ≢ level) × (level.closed ≡ false) × (level.waiters ≡ 0) × Fits level.seats level.limit (own_width pass) × ((between : PassRecord) × PassLoadsLevel pass level between × PassMissesLevel between other pass')

-- the Pass may write this decision
abbrev pub MayWrite : PassRecord → Decision → Type 0
MayWrite pass Execute = (pass.state ≡ Took) × (pass.wrote ≡ None)
MayWrite pass QueueFull = ⊥
MayWrite pass Closed = (pass.state ≡ Fresh) × (pass.knows.saw_closed ≡ true)
MayWrite pass Cancelled = ⊥
MayWrite pass ConcurrencyLimit = (pass.state ≡ Fresh) × (pass.knows.shape.response ≡ Reject) × (pass.no_room ≡ true)

-- the seats of the Pass stand, and it was told its decision: it took them, or it is in line and was told execute
pub record MayRelease (pass : PassRecord) : Type 0 where
  pub stands : ((pass.state ≡ Took) × (told_own pass ≢ None)) ⊎ ((pass.state ≡ InLine) × (told_own pass ≡ Some Execute))

-- one exchange: the decision was written, or another was found, and that is the answer
abbrev pub Decides : PassRecord → Decision → Decision → PassRecord → Type 0
Decides pass decision answer pass' = (PassExchangesDecision decision pass pass' × (answer ≡ decision)) ⊎ PassMissesDecision decision pass (Some answer) pass'
