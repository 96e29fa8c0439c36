-- What a step says by which a request gives its seats back.
use Rattle.std.specs.Prelude.{◌≡◌, ◌==◌, not, Bool, false, if◌then◌else◌}
use Rattle.apf_words.specs.Level.{Level}
use Rattle.apf_gate.specs.declared.record.PassRecord.{PassRecord}
use Rattle.apf_gate.specs.PassSteps.{PassSubtractsLevel}
use Rattle.apf_gate.specs.Tokens.{PassToken}
use Rattle.apf_line.specs.Tokens.{IsRunning}

-- the request executes, and entered a queue if this is true: then it was dispatched from it. Else it took its seats on arrival
pub record Executes (entered : Bool) (token : PassToken) : Type 0 where
  pub runs : IsRunning token
  pub entered_is : token.pass.entered ≡ entered

-- one step on the level word, which found whether requests waited
pub record GivesBack (pass : PassRecord) (waiting : Bool) (pass' : PassRecord) : Type 0 where
  pub level : Level
  pub subtracts : PassSubtractsLevel pass level pass'
  pub finds : waiting ≡ not (level.waiters == 0)

-- its seats went back by one step. One that took them on arrival answers whether requests waited then; of one that was dispatched nothing is owed
pub record ReleasesMeasured (pass : PassRecord) (owes : Bool) (pass' : PassRecord) : Type 0 where
  pub waiting : Bool
  pub gives : GivesBack pass waiting pass'
  pub owes_is : owes ≡ (if pass.entered then false else waiting)
