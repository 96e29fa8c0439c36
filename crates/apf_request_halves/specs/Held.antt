-- Lines that are held.
use Rattle.std.specs.Prelude.{ℕ, option_map, Vec}
use Rattle.std.specs.declared.alloc.Global.{Global}
use Rattle.apf_request_lines.specs.Lines.{Request}
use Rattle.apf_request_halves.specs.declared.held.Held.{Held}

-- what a line of this number, counted from 1, says of a request
pub record Placed : Type 0 where
  pub number : ℕ
  pub request : Request

-- a line that is held, with its id
abbrev pub placed : Vec ℕ Global × Held → Placed
placed (id, held) = record {
  number = held.number;
  request = record {
    audit_id = id.items;
    schema = option_map (λ text. text.items) held.schema;
    level = option_map (λ text. text.items) held.level;
    seats = held.seats;
    runs_for = held.runs_for;
  };
}
