-- How a gate begins.
use Rattle.std.specs.Prelude.{◌⊎◌, ℕ, zero, suc, ◌<◌, ◌≤◌, List, [], ◌∷◌, ◌++◌, length}
use Rattle.apf_words.specs.Limits.{max_limit, max_requests, max_width, max_stations}
use Rattle.apf_model.specs.World.{width}
use Rattle.apf_model.specs.Schedule.{AreWidths}
use Rattle.apf_gate.specs.declared.record.Shape.{Shape}
use Rattle.apf_gate.specs.declared.fault.GateFault.{GateFault}
use Rattle.apf_gate.specs.declared.fault.GateFault.TheVariants as fault
use Rattle.apf_gate.specs.Records.{new_pass, new_station}
use Rattle.apf_gate.specs.Gauges.{IsShape}
use Rattle.apf_gate.specs.Tokens.{GateId, PassToken, StationToken}

-- the tokens of the first requests, and of the first Stations, as they begin
abbrev pub new_passes : GateId → ℕ → List PassToken
new_passes gate zero = []
new_passes gate (suc r) = new_passes gate r ++ record { table = gate.table; pass = new_pass gate.shape r } ∷ []

abbrev pub new_stations : GateId → ℕ → List StationToken
new_stations gate zero = []
new_stations gate (suc k) = new_stations gate k ++ record { table = gate.table; station = new_station gate.shape k } ∷ []

-- the width is in range
abbrev pub IsWidth : ℕ → Type 0
IsWidth k = (1 ≤ k) × (k ≤ max_width)

-- the first fault, in this order: the limit, the first bad width, too many requests or Stations, out of memory
abbrev pub FaultOf : Shape → GateFault → Type 0
FaultOf s fault.BadLimit = (s.limit < 1) ⊎ (max_limit < s.limit)
FaultOf s (fault.BadWidth r) = (1 ≤ s.limit) × (s.limit ≤ max_limit) × (r < length s.widths) × (¬ IsWidth (width s.widths r)) × ((j : ℕ) → j < r → IsWidth (width s.widths j))
FaultOf s fault.TooMany = (1 ≤ s.limit) × (s.limit ≤ max_limit) × AreWidths s.widths × ((max_requests < length s.widths) ⊎ (max_stations < s.stations))
FaultOf s fault.NoMemory = IsShape s
