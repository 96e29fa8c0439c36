-- What a worker has, and what all have together.
use Rattle.std.specs.Prelude.{◌≡◌, ℕ, ◌+◌, true, List, [], ◌∷◌, length, All}
use Rattle.apf_files.specs.declared.requests.Request.{Request}
use Rattle.apf_gate.specs.declared.record.State.TheVariants.{Fresh}
use Rattle.apf_gate.specs.Tokens.{GateId, PassToken, StationToken, pass_gate}
use Rattle.apf_run.specs.Plans.{closes_at, IsFaithful}

-- its Station, the Passes that did not arrive, and what is left of those that did
pub record Load : Type 0 where
  pub station : StationToken
  pub passes : List PassToken
  pub dones : List PassToken

-- a Pass of this gate, which did not arrive
abbrev pub IsFresh : GateId → PassToken → Type 0
IsFresh gate t = (pass_gate t ≡ gate) × (t.pass.state ≡ Fresh)

-- the Station saw the level closed, if the request closes it
abbrev pub SawClosed : List Request → StationToken → PassToken → Type 0
SawClosed requests station t = closes_at requests t.pass.number ≡ true → station.station.knows.saw_closed ≡ true

-- all of it is of this gate, its Station is faithful, and it closed the level if one of its requests does
pub record IsLoadOf (gate : GateId) (requests : List Request) (load : Load) : Type 0 where
  pub faithful : IsFaithful gate requests load.station
  pub passes : All (IsFresh gate) load.passes
  pub dones : All (λ t. pass_gate t ≡ gate) load.dones
  pub closed : All (SawClosed requests load.station) load.dones

-- the requests that all have which did not arrive
abbrev pub held : List Load → ℕ
held [] = 0
held (load ∷ loads) = length load.passes + held loads
