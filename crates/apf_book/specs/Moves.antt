-- What the steps of the Desk did in a call.
use Rattle.std.specs.Prelude.{◌≡◌, ◌≢◌, ℕ, List, Option, Some, None}
use Rattle.apf_words.specs.Fits.{Fits}
use Rattle.apf_words.specs.Level.{Level}
use Rattle.apf_words.specs.declared.decision.Decision.{Decision}
use Rattle.apf_words.specs.declared.decision.Decision.TheVariants.{Cancelled}
use Rattle.apf_history.specs.declared.events.Status.{Status}
use Rattle.apf_model.specs.World.{width}
use Rattle.apf_model.specs.declared.moves.Move.{Move}
use Rattle.apf_gate.specs.declared.record.Actor.TheVariants.{OfDesk}
use Rattle.apf_gate.specs.declared.record.Knowledge.{Knowledge}
use Rattle.apf_gate.specs.declared.record.DeskRecord.{DeskRecord}
use Rattle.apf_gate.specs.Records.{service, KnowsMore}
use Rattle.apf_gate.specs.Steps.{SawLevel, SawDecision}
use Rattle.apf_book.specs.BookView.{logged}

-- they did nothing with other requests, and of r the log is to say this afterwards
pub record Moves (desk : DeskRecord) (r : ℕ) (says : Option Status) (desk' : DeskRecord) : Type 0 where
  pub more : KnowsMore desk.knows desk'.knows
  pub here : logged (service desk' r) ≡ says
  pub others : (j : ℕ) → j ≢ r → service desk' j ≡ service desk j

-- the last step, made since this was known, was the Desk's on the word of r, and left it at this decision
pub record LastTold (known : Knowledge) (r : ℕ) (decision : Decision) (known' : Knowledge) : Type 0 where
  pub before : Knowledge
  pub more : KnowsMore known before
  pub found : Option Decision
  pub own : Option Move
  pub step : SawDecision OfDesk before r found (Some decision) own known'

-- the last two steps, made since this was known, were the Desk's: a load of the word of r, which did not find cancelled, and then a load of the level word, which r did not fit by these widths
pub record LastFound (known : Knowledge) (widths : List ℕ) (r : ℕ) (known' : Knowledge) : Type 0 where
  pub before : Knowledge
  pub more : KnowsMore known before
  pub found : Option Decision
  pub between : Knowledge
  pub read : SawDecision OfDesk before r found found None between
  pub not_cancelled : found ≢ Some Cancelled
  pub level : Level
  pub step : SawLevel OfDesk between level None known'
  pub no_room : ¬ Fits level.seats level.limit (width widths r)
