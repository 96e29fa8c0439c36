-- What a worker has, and what all have together.
use Rattle.std.specs.Prelude.{◌≡◌, ◌≢◌, ℕ, ◌+◌, ◌≤◌, true, List, [], ◌∷◌, length, slice_get, All, Some, None}
use Rattle.apf_files.specs.declared.requests.Request.{Request}
use Rattle.apf_gate.specs.Records.{told_of}
use Rattle.apf_gate.specs.Slots.{slot_of, round_of}
use Rattle.apf_gate.specs.Traces.{asked_in}
use Rattle.apf_gate.specs.Tokens.{GateId, PassToken, StationToken, pass_gate}
use Rattle.apf_line.specs.Tokens.{IsDone}
use Rattle.apf_run.specs.Plans.{closes_at}
use Rattle.apf_run.specs.RoundsPlans.{number_in, ask_it_asks, IsFaithful}

-- its Station, and the Passes of its slots
pub record Load : Type 0 where
  pub station : StationToken
  pub slots : List PassToken

-- this many requests of the slot came
abbrev pub IsInRound : ℕ → PassToken → Type 0
IsInRound n t = round_of t.pass.number ≡ n

-- a Station that saw the level closed did so, and was told of whom it was told
pub record KeepsKnowing (s s' : StationToken) : Type 0 where
  pub closed : s.station.knows.saw_closed ≡ true → s'.station.knows.saw_closed ≡ true
  pub told : (r : ℕ) → told_of s.station.knows.told r ≢ None → told_of s'.station.knows.told r ≢ None

-- the Station saw the level closed, if a request of the slot came and closes it, and was told the decision of each request of the slot that came
pub record IsKnown (requests : List Request) (s : StationToken) (t : PassToken) : Type 0 where
  pub closed : 1 ≤ round_of t.pass.number → closes_at requests (slot_of t.pass.number) ≡ true → s.station.knows.saw_closed ≡ true
  pub told : (round : ℕ) → 1 ≤ round → round ≤ round_of t.pass.number → told_of s.station.knows.told (number_in requests (slot_of t.pass.number) round) ≢ None

-- each request of the slot that came asked for what the slot's line of the requests says, by the steps that its Pass knows of
abbrev pub HasAsked : List Request → PassToken → Type 0
HasAsked requests t = (round : ℕ) → 1 ≤ round → round ≤ round_of t.pass.number
    → asked_in t.pass.knows.trace (number_in requests (slot_of t.pass.number) round) ≡ Some (ask_it_asks (slice_get requests (slot_of t.pass.number)))

-- all of it is of this gate, its Station is faithful, and knows its slots. The request of each slot is over, or none came yet
pub record IsLoadOf (gate : GateId) (requests : List Request) (rounds : ℕ) (load : Load) : Type 0 where
  pub faithful : IsFaithful gate requests rounds load.station
  pub own : All (λ (t : PassToken). pass_gate t ≡ gate) load.slots
  pub done : All IsDone load.slots
  pub known : All (IsKnown requests load.station) load.slots
  pub asked : All (HasAsked requests) load.slots

-- it has no slot
abbrev pub IsIdle : Load → Type 0
IsIdle load = load.slots ≡ []

-- no request of its slots came
abbrev pub IsReady : Load → Type 0
IsReady load = All (IsInRound 0) load.slots

-- it went through this many rounds with this many slots
abbrev pub IsThrough : ℕ → ℕ → Load → Type 0
IsThrough rounds count load = (length load.slots ≡ count) × All (IsInRound rounds) load.slots

-- the slots that all have
abbrev pub held : List Load → ℕ
held [] = 0
held (load ∷ loads) = length load.slots + held loads
