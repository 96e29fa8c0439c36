-- The text of the whole picture.
use Rattle.std.specs.Prelude.{ℕ, ◌+◌, ◌-◌, List, [], ◌∷◌, ◌++◌, length, codes, sum_by}
use Rattle.apf_picture.specs.Parts.{axis_text}
use Rattle.apf_cluster_picture.specs.Heads.{head_text}
use Rattle.apf_cluster_picture.specs.Levels.{high_of, quiet_of}
use Rattle.apf_cluster_picture.specs.Strips.{level_text}
use Rattle.apf_cluster_picture.specs.declared.level.LevelStrip.{LevelStrip}

-- the strips of the levels, one below another from a height on
abbrev pub levels_from : (top : ℕ) → List LevelStrip → (end : ℕ) → List ℕ
levels_from top [] end = []
levels_from top (l ∷ levels) end = level_text l end top ++ levels_from (top + high_of l) levels end

abbrev pub levels_text : List LevelStrip → (end : ℕ) → List ℕ
levels_text levels end = levels_from 124 levels end

-- the picture of the levels until an end, with marks of the axis that are a step apart
unfoldable pub picture_text : List LevelStrip → (end step : ℕ) → List ℕ
picture_text levels end step =
    head_text levels (length levels - quiet_of levels) (quiet_of levels) end (124 + sum_by high_of levels + 28) ++ axis_text 0 end step (sum_by high_of levels) ++ levels_text levels end ++ codes "</svg>\n"
