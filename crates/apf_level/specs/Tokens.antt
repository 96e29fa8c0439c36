-- What the tokens of a level say of their Passes.
use Rattle.std.specs.Prelude.{◌≡◌, ◌≢◌, ◌⊎◌, ◌<◌, true, Some, None}
use Rattle.apf_words.specs.Limits.{max_requests}
use Rattle.apf_words.specs.declared.decision.Decision.TheVariants.{Execute}
use Rattle.apf_model.specs.declared.moves.Stage.TheVariants.{Stands}
use Rattle.apf_gate.specs.declared.record.State.TheVariants.{Took, InLine}
use Rattle.apf_gate.specs.Records.{told_own}
use Rattle.apf_gate.specs.Traces.{world_of}
use Rattle.apf_gate.specs.Tokens.{PassToken}
use Rattle.apf_gate.specs.Ends.{IsBack}

-- it is in line, and its request entered
pub record IsInLine (token : PassToken) : Type 0 where
  pub state : token.pass.state ≡ InLine
  pub entered : token.pass.entered ≡ true
  pub small : token.pass.number < max_requests

-- it was told execute, and its grant stands
pub record IsRunning (token : PassToken) : Type 0 where
  pub state : (token.pass.state ≡ Took) ⊎ (token.pass.state ≡ InLine)
  pub told : told_own token.pass ≡ Some Execute
  pub stands : (world_of token.pass.knows.shape token.pass.knows.trace).stage token.pass.number ≡ Stands
  pub small : token.pass.number < max_requests

-- it was told a decision, and holds no seats
pub record IsDone (token : PassToken) : Type 0 where
  pub back : IsBack token
  pub told : told_own token.pass ≢ None
  pub small : token.pass.number < max_requests
