-- What a load tells that finds the records of many tokens at one seat.
use Rattle.std.specs.Prelude.{◌≡◌, ℕ, List}
use Rattle.apf_gate.specs.declared.record.Shape.{Shape}
use Rattle.apf_gate.specs.declared.record.Record.{Record}
use Rattle.apf_gate.specs.Account.{Account, IsSound, AreSlots}
use Rattle.apf_gate.specs.Rule.{Every, AreApart, IsRecord, desk_of, last_alone}
use Rattle.atomic_table.specs.Table.{Me}

-- one sound account has all these records
pub record IsOne (shape : Shape) (all : List Record) : Type 0 where
  pub account : Account
  pub sound : IsSound shape account
  pub slots : AreSlots shape account
  pub stand : Every (IsRecord shape account) all
  pub apart : AreApart all

-- the seat, of whose records the Desk's is the last, stays as it was
abbrev pub TellsAll : Me (Unit {0}) (List Record) → ℕ → Me (Unit {0}) (List Record) → Type 0
TellsAll me number me' = (me' ≡ me) × IsOne (desk_of (last_alone me.0)).knows.shape me.0
