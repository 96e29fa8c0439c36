-- Why a script is not replayed, and why requests are not run.
use Rattle.std.specs.Prelude.{ℕ, ◌<◌, List}
use Rattle.apf_model.specs.declared.config.Config.{Config}
use Rattle.apf_files.specs.declared.requests.Request.{Request}
use Rattle.apf_session.specs.declared.fault.OpenFault.{OpenFault}
use Rattle.apf_session.specs.declared.fault.OpenFault.TheVariants as faults
use Rattle.apf_session.specs.Openings.{CanOpen, IsGateFault, IsLevelFault, IsOpenFault}
use Rattle.apf_local.specs.declared.fault.OpenFault.{OpenFault as LocalFault}
use Rattle.apf_local.specs.declared.fault.OpenFault.TheVariants as local
use Rattle.apf_run.specs.declared.fault.RunFault.{RunFault}
use Rattle.apf_run.specs.declared.fault.RunFault.TheVariants as run
use Rattle.apf_run.specs.Asks.{asks_of}

-- a gate and a level are opened for these settings and requests, with this many Stations: nothing of them is out of range
abbrev pub CanRun : Config → List Request → ℕ → Type 0
CanRun config requests stations = CanOpen config (asks_of requests) stations

-- the first fault of a replay: the gate's, then the level's; memory may be refused at any time
abbrev pub IsReplayFault : Config → List Request → ℕ → OpenFault → Type 0
IsReplayFault config requests stations fault = IsOpenFault config (asks_of requests) stations fault

-- the first fault of a run: the gate's, the level's, a worker that could not be started; memory may be refused at any time
abbrev pub IsRunFault : Config → List Request → ℕ → RunFault → Type 0
IsRunFault config requests workers (run.Gate fault) = IsGateFault config (asks_of requests) workers fault
IsRunFault config requests workers (run.Level fault) = IsLevelFault config (asks_of requests) workers fault
IsRunFault config requests workers (run.Worker k) = CanRun config requests workers × (k < workers)
IsRunFault config requests workers run.NoMemory = Unit {0}

-- what a fault of an opening is told as by a run
abbrev pub told_of_opening : OpenFault → RunFault
told_of_opening (faults.Gate fault) = run.Gate fault
told_of_opening (faults.Level fault) = run.Level fault
told_of_opening faults.NoMemory = run.NoMemory

-- what a fault of the opening of a level of one thread is told as by a replay
abbrev pub told_of_local : LocalFault → OpenFault
told_of_local (local.Gate fault) = faults.Gate fault
told_of_local (local.Level fault) = faults.Level fault
told_of_local local.NoMemory = faults.NoMemory
