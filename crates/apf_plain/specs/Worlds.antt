-- What the plain program's worlds mean.
use Rattle.std.specs.Prelude.{ℕ, ◌≤◌, List, slice_index_or, false, None}
use Rattle.apf_words.specs.Limits.{max_limit}
use Rattle.apf_model.specs.declared.moves.Move.{Move}
use Rattle.apf_model.specs.declared.moves.Move.TheVariants.{SetLimit}
use Rattle.apf_plain.specs.declared.world.World.{World as PlainWorld}
use Rattle.apf_model.specs.World.{World}
use Rattle.apf_plain.specs.Stages.{stage_in}

-- the widths of a plain world's requests
abbrev pub widths_of : PlainWorld → List ℕ
widths_of p = p.widths.items

-- the world that a plain world stands for
abbrev pub world_of : PlainWorld → World
world_of p =
    record {
      is_open = p.is_open;
      limit = p.limit;
      largest = p.largest;
      response = p.response;
      stage = stage_in p.stages.items;
      saw_no_room = λ r. slice_index_or p.saw_no_room.items r false;
      decision = λ r. slice_index_or p.decisions.items r None;
    }

-- a limit that a plain world takes
abbrev pub IsLowLimit : Move → Type 0
IsLowLimit (SetLimit n) = n ≤ max_limit
IsLowLimit _ = Unit {0}
