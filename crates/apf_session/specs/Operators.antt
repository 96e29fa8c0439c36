-- What became of the operators of a session.
use Rattle.std.specs.Prelude.{◌≡◌, ◌≢◌, ℕ, ◌<◌, List, length, slice_index_or}
use Rattle.apf_gate.specs.declared.record.StationRecord.{StationRecord}
use Rattle.apf_gate.specs.Tokens.{StationToken}

-- as many operators as there were, of which all but the first one made no step
pub record StayButFirst (old new : List StationToken) : Type 0 where
  pub count : length new ≡ length old
  pub others : (i : ℕ) (d : StationToken) → i ≢ 0 → slice_index_or new i d ≡ slice_index_or old i d

-- the Stations that were handed in are these operators', in their order; the first may have made steps since
pub record KeepsOrder (operators stations : List StationToken) : Type 0 where
  pub count : length stations ≡ length operators
  pub numbers : (i : ℕ) (d : StationToken) → (slice_index_or stations i d).station.number ≡ (slice_index_or operators i d).station.number
  pub others : (i : ℕ) (d : StationToken) → i ≢ 0 → slice_index_or stations i d ≡ slice_index_or operators i d

-- the first of these operators, if there is one, made these steps and no other one
abbrev pub FirstMakes : (StationRecord → StationRecord → Type 0) → List StationToken → List StationToken → Type 0
FirstMakes Steps operators stations = (d : StationToken) → 0 < length operators → Steps (slice_index_or operators 0 d).station (slice_index_or stations 0 d).station
