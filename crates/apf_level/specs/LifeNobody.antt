-- A level that nobody opened.
use Rattle.std.specs.Prelude.{false, []}
use Rattle.atomic_table.specs.Seated.{TableId}
use Rattle.apf_model.specs.declared.response.Response.TheVariants.{Queue}
use Rattle.apf_gate.specs.Gauges.{shape_of}
use Rattle.apf_line.specs.Levels.{LifeId}

abbrev no_table : TableId
no_table = record { words = 0; slots = 0; views_name = 0; atom = 0; block = 0; offset = 0; slot_names = [] }

abbrev pub no_level : LifeId
no_level =
    record {
      gate = record { table = no_table; shape = shape_of 0 Queue [] 0 };
      sizes = record { deck = 0; hand = 0 };
      queue_limit = 0;
      settles = false;
    }
