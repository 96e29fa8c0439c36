-- Why a level was not served to the end of its input.
use Rattle.std.specs.Prelude.{◌≢◌, ⊤, ℕ}
use Rattle.apf_model.specs.declared.config.Config.{Config}
use Rattle.apf_local.specs.declared.fault.OpenFault.{OpenFault}
use Rattle.apf_local.specs.declared.fault.OpenFault.TheVariants as opens
use Rattle.apf_local.specs.Openings.{IsOpenFault}
use Rattle.apf_service.specs.declared.serving.ServeFault.{ServeFault}
use Rattle.apf_service.specs.declared.serving.ServeFault.TheVariants.{Open, CannotRead, CannotWrite, NoMemory}

-- what a fault of the opening is told as: out of memory as the call's own
abbrev pub told_of_open : OpenFault → ServeFault
told_of_open opens.NoMemory = NoMemory
told_of_open (opens.Gate fault) = Open (opens.Gate fault)
told_of_open (opens.Level fault) = Open (opens.Level fault)

-- the input was not read, or an answer was not written
abbrev pub IsPipeFault : ServeFault → Type 0
IsPipeFault CannotRead = ⊤
IsPipeFault CannotWrite = ⊤
IsPipeFault NoMemory = ⊥
IsPipeFault (Open fault) = ⊥

-- the first fault of the opening of a level with these settings and this many slots; or what may come at any time
abbrev pub IsServeFault : Config → ℕ → ServeFault → Type 0
IsServeFault config slots (Open fault) = (fault ≢ opens.NoMemory) × IsOpenFault config slots fault
IsServeFault config slots CannotRead = ⊤
IsServeFault config slots CannotWrite = ⊤
IsServeFault config slots NoMemory = ⊤
