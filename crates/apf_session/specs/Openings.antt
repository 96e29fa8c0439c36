-- What a level is opened with, and why it is not opened.
use Rattle.std.specs.Prelude.{◌≡◌, ◌≢◌, ℕ, List, [], map}
use Rattle.atomic_table.specs.Seated.{TableId}
use Rattle.apf_gate.specs.declared.record.Shape.{Shape}
use Rattle.apf_gate.specs.declared.fault.GateFault.{GateFault}
use Rattle.apf_gate.specs.declared.fault.GateFault.TheVariants as gate
use Rattle.apf_gate.specs.Gauges.{shape_of, IsShape}
use Rattle.apf_gate.specs.Opens.{FaultOf}
use Rattle.apf_gate.specs.Tokens.{GateId, StationToken, station_gate}
use Rattle.apf_model.specs.declared.config.Config.{Config}
use Rattle.apf_model.specs.declared.config.Ask.{Ask}
use Rattle.apf_book.specs.declared.fault.BookFault.{BookFault}
use Rattle.apf_book.specs.declared.fault.BookFault.TheVariants as book
use Rattle.apf_book.specs.Opening.{opening_ledger, opening_ledger_with}
use Rattle.apf_level.specs.Levels.{LevelId}
use Rattle.apf_level.specs.Opening.{FaultBy, SettledBy}
use Rattle.apf_session.specs.declared.fault.OpenFault.{OpenFault}
use Rattle.apf_session.specs.declared.fault.OpenFault.TheVariants as faults

-- the level of this gate and this cell of statistics, opened with these settings
abbrev pub level_of : GateId → TableId → Config → List Ask → LevelId
level_of gate cell config asks = record { gate = gate; opening = opening_ledger config asks; cell = cell }

-- the same, with these costs
abbrev pub level_with : GateId → TableId → Config → List Ask → List ℕ → LevelId
level_with gate cell config asks costs = record { gate = gate; opening = opening_ledger_with config asks costs; cell = cell }

-- a Station of this gate, which made no step
abbrev pub IsNew : GateId → StationToken → Type 0
IsNew gate s = (station_gate s ≡ gate) × (s.station.knows.trace ≡ [])

-- the shape of a gate for these settings and requests, with this many Stations
abbrev pub shape_for : Config → List Ask → ℕ → Shape
shape_for config asks stations = shape_of config.limit config.limit_response (map (λ (a : Ask). a.width) asks) stations

-- a gate and a level are opened for these settings and requests: nothing of them is out of range
abbrev pub CanOpen : Config → List Ask → ℕ → Type 0
CanOpen config asks stations = IsShape (shape_for config asks stations) × SettledBy config.limit_response config asks

-- the gate's fault that is told as such: its first, unless that is out of memory
abbrev pub IsGateFault : Config → List Ask → ℕ → GateFault → Type 0
IsGateFault config asks stations fault = (fault ≢ gate.NoMemory) × FaultOf (shape_for config asks stations) fault

-- the level's fault that is told as such: its first, unless that is out of memory, where the gate has none
abbrev pub IsLevelFault : Config → List Ask → ℕ → BookFault → Type 0
IsLevelFault config asks stations fault =
    (fault ≢ book.NoMemory) × IsShape (shape_for config asks stations) × FaultBy config.limit_response config asks fault

-- the first fault of an opening: the gate's, then the level's; memory may be refused at any time
abbrev pub IsOpenFault : Config → List Ask → ℕ → OpenFault → Type 0
IsOpenFault config asks stations (faults.Gate fault) = IsGateFault config asks stations fault
IsOpenFault config asks stations (faults.Level fault) = IsLevelFault config asks stations fault
IsOpenFault config asks stations faults.NoMemory = Unit {0}

-- what a fault of the gate is told as: out of memory as the call's own
abbrev pub told_of_gate : GateFault → OpenFault
told_of_gate gate.NoMemory = faults.NoMemory
told_of_gate gate.BadLimit = faults.Gate gate.BadLimit
told_of_gate (gate.BadWidth request) = faults.Gate (gate.BadWidth request)
told_of_gate gate.TooMany = faults.Gate gate.TooMany

-- what a fault of the level is told as: out of memory as the call's own
abbrev pub told_of_level : BookFault → OpenFault
told_of_level book.NoMemory = faults.NoMemory
told_of_level (book.Dealer fault) = faults.Level (book.Dealer fault)
told_of_level (book.Queues fault) = faults.Level (book.Queues fault)
