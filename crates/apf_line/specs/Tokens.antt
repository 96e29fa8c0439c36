-- What the tokens of a level say of their Passes.
use Rattle.std.specs.Prelude.{◌≡◌, ◌⊎◌, ◌≤◌, ℕ, true, Some}
use Rattle.apf_words.specs.Limits.{max_cost}
use Rattle.apf_words.specs.declared.decision.Decision.TheVariants.{Execute}
use Rattle.apf_model.specs.declared.response.Response.TheVariants.{Queue}
use Rattle.apf_model.specs.declared.moves.Stage.TheVariants.{Stands}
use Rattle.apf_gate.specs.declared.record.State.TheVariants.{Fresh, Took, InLine}
use Rattle.apf_gate.specs.Records.{told_own}
use Rattle.apf_gate.specs.PassSteps.{MayRenew}
use Rattle.apf_gate.specs.Traces.{world_of, asked_in}
use Rattle.apf_gate.specs.Tokens.{PassToken, pass_gate}
use Rattle.apf_gate.specs.LifeEnds.{IsBackForLife}

-- a request that did not arrive yet: its Pass, the hash of its flow, and what its dispatch is charged
pub record Arriving : Type 0 where
  pub token : PassToken
  pub hash : ℕ
  pub cost : ℕ

-- its Pass is fresh, and its cost in the range of costs. It asked for this when it was begun
pub record IsArriving (a : Arriving) : Type 0 where
  pub fresh : a.token.pass.state ≡ Fresh
  pub some_cost : 1 ≤ a.cost
  pub low_cost : a.cost ≤ max_cost
  pub asked : asked_in a.token.pass.knows.trace a.token.pass.number ≡ Some (record { hash = a.hash; cost = a.cost })

-- it is in line, and its request entered, at a gate with queues
pub record IsInLine (token : PassToken) : Type 0 where
  pub state : token.pass.state ≡ InLine
  pub entered : token.pass.entered ≡ true
  pub queues : token.pass.knows.shape.response ≡ Queue

-- it was told execute, and its grant stands
pub record IsRunning (token : PassToken) : Type 0 where
  pub state : (token.pass.state ≡ Took) ⊎ (token.pass.state ≡ InLine)
  pub told : told_own token.pass ≡ Some Execute
  pub stands : (world_of token.pass.knows.shape token.pass.knows.trace).stage token.pass.number ≡ Stands

-- its request is decided and holds no seats, or never began: it may leave it for the next one of its slot
pub record IsDone (token : PassToken) : Type 0 where
  pub back : IsBackForLife token
  pub may : MayRenew token.pass

-- the same request at the same gate
pub record IsOf (token token' : PassToken) : Type 0 where
  pub gate : pass_gate token' ≡ pass_gate token
  pub number : token'.pass.number ≡ token.pass.number
