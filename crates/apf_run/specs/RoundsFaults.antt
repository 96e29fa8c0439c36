-- Why requests are not run in rounds.
use Rattle.std.specs.Prelude.{ℕ, ◌<◌}
use Rattle.apf_model.specs.declared.config.Config.{Config}
use Rattle.apf_level.specs.LifeCalls.{SettledBy}
use Rattle.apf_session.specs.LifeOpenings.{CanOpenGate, IsGateFault, IsLevelFault}
use Rattle.apf_run.specs.declared.fault.RunFault.{RunFault}
use Rattle.apf_run.specs.declared.fault.RunFault.TheVariants as run

-- a gate and a level are opened for these settings, with this many slots and Stations: nothing of them is out of range
pub record CanRunRounds (config : Config) (slots stations : ℕ) : Type 0 where
  pub gate : CanOpenGate config slots stations
  pub level : SettledBy config.limit_response config slots

-- the first fault of a run in rounds: the gate's, the level's, a worker that could not be started; memory may be refused at any time
abbrev pub IsRoundsFault : Config → ℕ → ℕ → RunFault → Type 0
IsRoundsFault config slots workers (run.Gate fault) = IsGateFault config slots workers fault
IsRoundsFault config slots workers (run.Level fault) = IsLevelFault config slots workers fault
IsRoundsFault config slots workers (run.Worker k) = CanRunRounds config slots workers × (k < workers)
IsRoundsFault config slots workers run.NoMemory = Unit {0}
