-- What a picture shows of a run, or of a stretch of it, and its text.
use Rattle.std.specs.Prelude.{◌≡◌, ℕ, ◌+◌, ◌-◌, min, List, [], ◌++◌, length, map, reverse, sum_by, All, is_some, codes}
use Rattle.std.specs.List.{range_with_len}
use Rattle.apf_picture.specs.declared.scene.Scene.{Scene}
use Rattle.apf_picture.specs.declared.life.Life.{Life}
use Rattle.apf_picture.specs.declared.picture.Picture.{Picture}
use Rattle.apf_model.specs.declared.response.Response.{Response}
use Rattle.apf_model.specs.declared.response.Response.TheVariants.{Queue, Reject}
use Rattle.apf_picture.specs.declared.columns.Strip.{Strip}
use Rattle.apf_picture.specs.Scales.{IsStep, unit_of, unit_length}
use Rattle.apf_picture.specs.Ranks.{own_rows, AreOwnFlows, rows_of}
use Rattle.apf_picture.specs.Lives.{life_seen, lives_by}
use Rattle.apf_picture.specs.Columns.{AreUsedQueues, IsArea, IsStrip, IsMost, seats_at, most_waiting, row_in, queue_in, place_in}
use Rattle.apf_picture.specs.Labels.{Called, label_at, shared_of, shown_schema}
use Rattle.apf_picture.specs.Rows.{AreRows, numbers_of, label_in}
use Rattle.apf_picture.specs.Cuttings.{shared_beginning, IsCutting}
use Rattle.apf_picture.specs.Words.{counted_text}
use Rattle.apf_picture.specs.Styles.{style_text}
use Rattle.apf_picture.specs.Heads.{size_text, page_text, counts_text, schema_text, schema_sentence, settings_text, whole_text, facts_text, sentences, beginning_text, beginning_line}
use Rattle.apf_picture.specs.Parts.{axis_text, seats_text}
use Rattle.apf_picture.specs.Strips.{high_of, queues_text}
use Rattle.apf_picture.specs.Bars.{height_of, rows_text}

abbrev pub flows_in : Scene → ℕ
flows_in scene = length scene.flows.now.firsts.items

-- how long the stretch is that is drawn
abbrev pub length_of : Scene → ℕ
length_of scene = scene.end - scene.from

-- each request in the row of its flow, as the stretch shows it
abbrev pub lives_of : Scene → (own : List ℕ) → List Life
lives_of scene own = map (life_seen scene.from (length_of scene)) (lives_by scene.trace.now scene.outcomes.now scene.flows.now.of.items (rows_of own (flows_in scene)))

-- this many rows: those of their own, and the one that the others share
abbrev pub rows_in : Scene → ℕ
rows_in scene = min (flows_in scene) (own_rows + 1)

-- what the row of this number is called
abbrev pub label_in_scene : Scene → (own : List ℕ) → ℕ → Called
label_in_scene scene own = label_at scene.trace.now scene.flows.now.firsts.items own (is_some (shared_of scene.trace.now scene.flows.now.firsts.items))

-- what a picture of a run shows
pub record IsPictureOf (scene : Scene) (picture : Picture) : Type 0 where
  pub config : picture.config ≡ scene.config
  pub patience : picture.patience ≡ scene.patience
  pub from : picture.from ≡ scene.from
  pub long : picture.long ≡ length_of scene
  pub is_whole : picture.is_whole ≡ scene.is_whole
  pub step : IsStep (length_of scene) (unit_length (unit_of (length_of scene))) picture.step
  pub flows : picture.flows ≡ flows_in scene
  pub schema : shown_schema picture.schema ≡ shared_of scene.trace.now scene.flows.now.firsts.items
  -- the flows that have a row of their own
  pub own : List ℕ
  pub own_is : AreOwnFlows scene.outcomes.now scene.flows.now.of.items (flows_in scene) own
  pub numbers : picture.numbers ≡ numbers_of (lives_of scene own)
  -- the rows in their order, each with the requests and the name of its number
  pub rows : AreRows (lives_of scene own) (label_in_scene scene own) (rows_in scene) picture.rows.items
  -- what their names have in common is left out, and they are cut where the rows differ most
  pub beginning : picture.beginning.items ≡ shared_beginning (map label_in picture.rows.items)
  pub cutting : IsCutting (map label_in picture.rows.items) (length picture.beginning.items) picture.cutting
  -- the seats in use by each row and those below it, from the last row to the first, and the most that ever are
  pub areas : All (IsArea (lives_of scene own) (length_of scene)) picture.areas.items
  pub area_rows : map row_in picture.areas.items ≡ reverse (range_with_len 0 (rows_in scene))
  pub used : IsMost (seats_at (lives_of scene own) own_rows) picture.used
  -- the queues in which requests waited, one below another, and their lengths
  pub queues : AreUsedQueues (lives_of scene own) (map queue_in picture.strips.items)
  pub places : map place_in picture.strips.items ≡ range_with_len 0 (length picture.strips.items)
  pub strips : All (IsStrip (lives_of scene own) (length_of scene)) picture.strips.items

-- what it shows, in a few words
unfoldable pub title_text : Picture → List ℕ
title_text picture =
    counts_text picture.numbers.requests picture.flows ++ schema_text (shown_schema picture.schema) ++ codes " on " ++ counted_text picture.config.limit (codes "seat")

unfoldable pub whole_title : Picture → List ℕ
whole_title picture = title_text picture ++ beginning_text picture.beginning.items

unfoldable pub title_element : Picture → List ℕ
title_element picture = codes "<title id=\"title\">" ++ whole_title picture ++ codes "</title>\n"

-- what it shows, for who does not see it
unfoldable pub level_text : Picture → List ℕ
level_text picture =
    codes "<desc id=\"desc\">" ++ whole_text picture.numbers picture.is_whole picture.from picture.long ++ codes ". The level: " ++ settings_text picture.config picture.patience

unfoldable pub description_text : Picture → List ℕ
description_text picture =
    level_text picture ++ facts_text picture.used (length picture.strips.items) (most_waiting picture.strips.items)
    ++ schema_sentence (shown_schema picture.schema) ++ sentences picture.rows.items ++ codes "</desc>\n"

-- what stands above the parts
unfoldable pub notes_text : Picture → List ℕ
notes_text picture =
    codes "</text>\n<text class=\"note\" x=\"48\" y=\"47\">" ++ whole_text picture.numbers picture.is_whole picture.from picture.long ++ codes "</text>\n<text class=\"note\" x=\"48\" y=\"63\">" ++ settings_text picture.config picture.patience ++ codes "</text>\n"

unfoldable pub below_title : Picture → List ℕ
below_title picture = notes_text picture ++ beginning_line picture.beginning.items

unfoldable pub above_text : Picture → List ℕ
above_text picture = codes "<text class=\"head\" x=\"48\" y=\"28\">" ++ title_text picture ++ below_title picture

unfoldable pub head_text : Picture → (height : ℕ) → List ℕ
head_text picture height =
    size_text height ++ title_element picture ++ description_text picture ++ style_text ++ page_text height ++ above_text picture

-- the part of the queues, if the level has queues
abbrev pub queue_part_by : Response → List Strip → List ℕ
queue_part_by Queue strips = queues_text strips (most_waiting strips)
queue_part_by Reject strips = []

abbrev pub queue_part : Picture → List ℕ
queue_part picture = queue_part_by picture.config.limit_response picture.strips.items

-- the parts, of which that of the requests begins at a height, and the axis so long
unfoldable pub parts_text : Picture → (below depth : ℕ) → List ℕ
parts_text picture below depth =
    axis_text picture.from picture.long picture.step depth ++ seats_text picture.areas.items picture.used picture.config.limit
    ++ queue_part picture ++ rows_text picture.rows.items picture.cutting below picture.long

-- where the part of the requests begins, and where the last row ends
abbrev pub below_by : Response → (strips : ℕ) → ℕ
below_by Queue strips = 310 + high_of strips
below_by Reject strips = 264

abbrev pub below_of : Picture → ℕ
below_of picture = below_by picture.config.limit_response (length picture.strips.items)

abbrev pub bottom_of : Picture → ℕ
bottom_of picture = below_of picture + 44 + sum_by height_of picture.rows.items

-- the whole
unfoldable pub picture_text : Picture → List ℕ
picture_text picture =
    head_text picture (bottom_of picture + 28) ++ parts_text picture (below_of picture) (bottom_of picture - 124) ++ codes "</svg>\n"
