-- The tokens as callers see them, and what their fields keep.
use Rattle.std.specs.Prelude.{◌≡◌, ℕ, ◌^◌, ◌<◌, ◌≤◌, List, [], ◌∷◌, length, Option, Some}
use Rattle.apf_words.specs.Limits.{max_width}
use Rattle.apf_gate.specs.declared.record.Shape.{Shape}
use Rattle.apf_gate.specs.declared.record.PassRecord.{PassRecord}
use Rattle.apf_gate.specs.declared.record.DeskRecord.{DeskRecord}
use Rattle.apf_gate.specs.declared.record.StationRecord.{StationRecord}
use Rattle.apf_gate.specs.declared.record.Record.{Record}
use Rattle.apf_gate.specs.declared.record.Record.TheVariants.{Pass, Desk}
use Rattle.apf_gate.specs.declared.counts.Counts.{Counts}
use Rattle.apf_gate.specs.Slots.{slot_of, round_of}
use Rattle.apf_gate.specs.Records.{own_width}
use Rattle.apf_gate.specs.Counted.{AreCounts}
use Rattle.apf_gate.specs.Gauges.{IsShape}
use Rattle.apf_gate.specs.Rule.{pass_of, desk_of}
use Rattle.apf_gate.specs.Steps.{Both, both_of}
use Rattle.atomic_table.specs.Seated.{TableId}
use Rattle.atomic_table.specs.Table.{Me}

-- which gate it is: its table, and the shape that it was opened with
pub record GateId : Type 0 where
  pub table : TableId
  pub shape : Shape

-- a token: its table, and what it knows
pub record PassToken : Type 0 where
  pub table : TableId
  pub pass : PassRecord

pub record DeskToken : Type 0 where
  pub table : TableId
  pub desk : DeskRecord

pub record StationToken : Type 0 where
  pub table : TableId
  pub station : StationRecord

-- the gate that a token is of
abbrev pub pass_gate : PassToken → GateId
pass_gate token = record { table = token.table; shape = token.pass.knows.shape }

abbrev pub desk_gate : DeskToken → GateId
desk_gate token = record { table = token.table; shape = token.desk.knows.shape }

abbrev pub station_gate : StationToken → GateId
station_gate token = record { table = token.table; shape = token.station.knows.shape }

-- a Pass's seat has its record alone, which has the number, the width, and the decisions that these are the numbers of: at most one for each time that the slot was given before
pub record IsPass (me : Me (Unit {0}) (List Record)) (number width : ℕ) (counts : Counts) : Type 0 where
  pub alone : me ≡ (Pass (pass_of me.0) ∷ [], [])
  pub same_number : number ≡ (pass_of me.0).number
  pub same_width : width ≡ own_width (pass_of me.0)
  pub inside : (pass_of me.0).number < length (pass_of me.0).knows.shape.widths
  pub in_slot : slot_of (pass_of me.0).number < (pass_of me.0).knows.shape.slots
  pub small : number < 2 ^ 75
  pub narrow : width ≤ max_width
  pub counted : AreCounts counts (pass_of me.0).past
  pub few : length (pass_of me.0).past ≤ round_of number

-- the Desk's seat has its record alone, which has the request that it holds, and the shape of a gate
pub record IsDesk (me : Me (Unit {0}) (List Record)) (held : Option ℕ) : Type 0 where
  pub alone : me ≡ (Desk (desk_of me.0) ∷ [], [])
  pub same_held : held ≡ (desk_of me.0).held
  pub inside : (r : ℕ) → held ≡ Some r → r < length (desk_of me.0).knows.shape.widths
  pub in_slot : (r : ℕ) → held ≡ Some r → slot_of r < (desk_of me.0).knows.shape.slots
  pub small : (r : ℕ) → held ≡ Some r → r < 2 ^ 75
  pub shape : IsShape (desk_of me.0).knows.shape

-- a seat has one record alone
pub record IsAlone (gate : GateId) (table : TableId) (me : Me (Unit {0}) (List Record)) (x : Record) : Type 0 where
  pub same_table : table ≡ gate.table
  pub alone : me ≡ (x ∷ [], [])

-- the records of a seat that has those of a Pass and the Desk
abbrev pub both_at : Me (Unit {0}) (List Record) → Both
both_at me = both_of me.0

-- the seat has both records, which are of this gate
pub record AreBoth (gate : GateId) (table : TableId) (me : Me (Unit {0}) (List Record)) : Type 0 where
  pub same_table : table ≡ gate.table
  pub both : me ≡ (Pass (both_at me).pass ∷ Desk (both_at me).desk ∷ [], [])
  pub pass_shape : (both_at me).pass.knows.shape ≡ gate.shape
  pub desk_shape : (both_at me).desk.knows.shape ≡ gate.shape
  pub inside : (both_at me).pass.number < length (both_at me).pass.knows.shape.widths
  pub in_slot : slot_of (both_at me).pass.number < (both_at me).pass.knows.shape.slots
  pub small : (both_at me).pass.number < 2 ^ 75
