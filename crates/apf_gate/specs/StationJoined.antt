-- The step of the Desk with a Station joined to it, and what a caller may rely on after it.
use Rattle.std.specs.Prelude.{◌≡◌, ℕ, true, List, [], ◌∷◌, None}
use Rattle.apf_words.specs.Level.{Level}
use Rattle.apf_gate.specs.declared.record.Actor.TheVariants.{OfDesk, OfStation}
use Rattle.apf_gate.specs.declared.record.Knowledge.{Knowledge}
use Rattle.apf_gate.specs.declared.record.DeskRecord.{DeskRecord}
use Rattle.apf_gate.specs.declared.record.StationRecord.{StationRecord}
use Rattle.apf_gate.specs.declared.record.Record.{Record}
use Rattle.apf_gate.specs.declared.record.Record.TheVariants.{Desk, Station}
use Rattle.apf_gate.specs.Records.{saw_level, KnowsMore}
use Rattle.apf_gate.specs.Traces.{GoesOn}
use Rattle.apf_gate.specs.Rule.{desk_of, station_of, without_first}
use Rattle.apf_gate.specs.Steps.{Tells, SawLevel}
use Rattle.apf_gate.specs.DeskSteps.{CountsWaiting}
use Rattle.apf_gate.specs.Tokens.{GateId, DeskToken, StationToken, desk_gate, station_gate}
use Rattle.atomic_table.specs.Seated.{TableId}
use Rattle.atomic_table.specs.Table.{Me}

-- while a Station is joined to the Desk, the step is the Desk's, and both records stand for it
pub record StationAndDesk : Type 0 where
  pub station : StationRecord
  pub desk : DeskRecord

-- both records stand at one seat, the Station's first
abbrev pub station_and_desk_of : List Record → StationAndDesk
station_and_desk_of view = record { station = station_of view; desk = desk_of (without_first view) }

abbrev pub ByStationAndDesk : Tells StationAndDesk → Me (Unit {0}) (List Record) → ℕ → Me (Unit {0}) (List Record) → Type 0
ByStationAndDesk Does me number me' = (me'.1 ≡ me.1) × ((both' : StationAndDesk) × (me'.0 ≡ Station both'.station ∷ Desk both'.desk ∷ []) × Does (station_and_desk_of me.0) number both')

-- what the Station knows after the Desk's load of the level word: what that found, and the Desk's trace
abbrev pub heard_by : StationRecord → Level → Knowledge → Knowledge
heard_by station level known' = saw_level station.knows level known'.trace

-- what the Station is told: the Desk's trace goes on from its own by steps of others. A level that it saw closed is found closed
pub record IsHeard (station : StationRecord) (level : Level) (known' : Knowledge) : Type 0 where
  pub trace : GoesOn known'.trace (OfStation station.number) station.knows.trace
  pub stays_closed : station.knows.saw_closed ≡ true → level.closed ≡ true
  pub more : KnowsMore station.knows (heard_by station level known')

-- they load the level word
abbrev pub StationAndDeskLoadLevel : StationAndDesk → Level → StationAndDesk → Type 0
StationAndDeskLoadLevel both level both' = (known' : Knowledge) × SawLevel OfDesk both.desk.knows level None known' × CountsWaiting both.desk level × IsHeard both.station level known'
    × (both' ≡ record { station = record both.station { knows = heard_by both.station level known' }; desk = record both.desk { knows = known' } })

-- the records of a seat that has those of a Station and the Desk
abbrev pub station_and_desk_at : Me (Unit {0}) (List Record) → StationAndDesk
station_and_desk_at me = station_and_desk_of me.0

-- the seat has both records, which are of this gate
pub record AreStationAndDesk (gate : GateId) (table : TableId) (me : Me (Unit {0}) (List Record)) : Type 0 where
  pub same_table : table ≡ gate.table
  pub both : me ≡ (Station (station_and_desk_at me).station ∷ Desk (station_and_desk_at me).desk ∷ [], [])
  pub station_shape : (station_and_desk_at me).station.knows.shape ≡ gate.shape
  pub desk_shape : (station_and_desk_at me).desk.knows.shape ≡ gate.shape

-- both are of the same gate still, and know more than they did. The Station has the number that it had. They have the same trace now
pub record SameStationAndDesk (desk : DeskToken) (station : StationToken) (desk' : DeskToken) (station' : StationToken) : Type 0 where
  pub gate_of_desk : desk_gate desk' ≡ desk_gate desk
  pub gate_of_station : station_gate station' ≡ station_gate station
  pub number : station'.station.number ≡ station.station.number
  pub more : KnowsMore desk.desk.knows desk'.desk.knows
  pub more_of_station : KnowsMore station.station.knows station'.station.knows
  pub follows : station'.station.knows.trace ≡ desk'.desk.knows.trace

-- after a hearing the Desk served nobody. A level that one of them had seen closed is seen closed by both. They were told no decision
pub record AfterHearStation (desk : DeskRecord) (station : StationRecord) (desk' : DeskRecord) (station' : StationRecord) : Type 0 where
  pub served : (desk'.services ≡ desk.services) × (desk'.held ≡ desk.held)
  pub closed : station.knows.saw_closed ≡ true → desk'.knows.saw_closed ≡ true
  pub closed_of_station : desk.knows.saw_closed ≡ true → station'.knows.saw_closed ≡ true
  pub told : (desk'.knows.told ≡ desk.knows.told) × (station'.knows.told ≡ station.knows.told)
