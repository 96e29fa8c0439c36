-- What is printed of the levels of a cluster and of their flows for programs.
use Rattle.std.specs.Prelude.{ℕ, Bool, true, false, List, [], ◌++◌, length, slice_get, Option, Some, None, codes, decimal, string_bytes, if◌then◌else◌}
use Rattle.std.specs.List.{flat_map, range_with_len}
use Rattle.apf_flows.specs.Json.{json_text}
use Rattle.apf_traces.specs.declared.request.FlowNames.{FlowNames}
use Rattle.apf_objects.specs.Levels.{LevelSaid}
use Rattle.apf_objects.specs.declared.level.LevelSettings.{LevelSettings}
use Rattle.apf_rows.specs.declared.account.Figures.{Figures}
use Rattle.apf_rows.specs.declared.sums.Sums.{Sums}
use Rattle.apf_rows.specs.declared.table.Line.{Line}
use Rattle.apf_cluster_tables.specs.declared.level_table.LevelTable.{LevelTable}
use Rattle.apf_cluster_tables.specs.Sides.{SideSaid}
use Rattle.apf_cluster_tables.specs.declared.order.FlowPlace.{FlowPlace}
use Rattle.apf_cluster_tables.specs.declared.flows.FlowAt.{FlowAt}
use Rattle.apf_cluster_tables.specs.declared.pairs.FlowPair.{FlowPair}

-- how many requests there were, and how they were decided
unfoldable pub counts_object : Sums → List ℕ
counts_object s =
    codes ",\"requests\":" ++ decimal s.requests ++ codes ",\"executed\":" ++ decimal s.executed
    ++ codes ",\"rejected\":" ++ decimal s.rejected ++ codes ",\"timedOut\":" ++ decimal s.cancelled

-- whether percentiles are exact
abbrev pub exact_object : Bool → List ℕ
exact_object true = codes ",\"exact\":true"
exact_object false = codes ",\"exact\":false"

-- what was used
unfoldable pub used_object : Sums → List ℕ
used_object s = codes ",\"seatTime\":" ++ decimal s.seat_time

-- how long requests waited, and the end of the line
unfoldable pub waits_object : Figures → List ℕ
waits_object f = codes ",\"median\":" ++ decimal f.median ++ codes ",\"p99\":" ++ decimal f.high ++ codes ",\"longest\":" ++ decimal f.sums.longest ++ codes "}\n"

-- what they used, and how long they waited
unfoldable pub figures_object : Figures → List ℕ
figures_object f = used_object f.sums ++ (exact_object f.is_exact ++ waits_object f)

-- the nominal limit
unfoldable pub nominal_object : ℕ → List ℕ
nominal_object nominal = codes ",\"nominal\":" ++ decimal nominal

-- the least limit that a level had, and the greatest
unfoldable pub range_object : (least greatest : ℕ) → List ℕ
range_object least greatest = codes ",\"leastLimit\":" ++ decimal least ++ codes ",\"greatestLimit\":" ++ decimal greatest

-- none where the level is exempt
abbrev pub limits_object : LevelSettings → LevelTable → List ℕ
limits_object settings t = if settings.is_exempt then [] else range_object t.least t.greatest

-- how many the server of the log turned away
unfoldable pub refused_object : ℕ → List ℕ
refused_object turned_away = codes ",\"log429s\":" ++ decimal turned_away

-- the number of a cluster, where there are two
unfoldable pub number_object : ℕ → List ℕ
number_object cluster = codes "\"cluster\":" ++ decimal cluster ++ codes ","

-- none where there is one cluster
abbrev pub cluster_object : Option ℕ → List ℕ
cluster_object None = []
cluster_object (Some cluster) = number_object cluster

-- how the object of a level begins
unfoldable pub level_head : Option ℕ → List ℕ
level_head cluster = codes "{" ++ (cluster_object cluster ++ codes "\"level\":")

-- the object of a level, of the cluster of this number
unfoldable pub level_object : Option ℕ → LevelSaid → LevelTable → List ℕ
level_object cluster l t =
    level_head cluster ++ (json_text l.name ++ (nominal_object t.nominal ++ (limits_object l.settings t ++ (refused_object t.turned_away ++ (counts_object t.table.all.sums ++ figures_object t.table.all)))))

-- the name of a schema
unfoldable pub schema_object : List ℕ → List ℕ
schema_object name = codes ",\"schema\":" ++ json_text name

-- what tells a flow from others of its schema
unfoldable pub distinguisher_object : List ℕ → List ℕ
distinguisher_object distinguisher = codes ",\"distinguisher\":" ++ json_text distinguisher

-- two names
abbrev pub two_names : FlowNames → List ℕ
two_names names = schema_object (string_bytes names.schema) ++ distinguisher_object (string_bytes names.distinguisher)

-- the two names of a flow, if it has some
abbrev pub names_object : Option FlowNames → List ℕ
names_object None = []
names_object (Some names) = two_names names

-- how the object of a flow begins
unfoldable pub flow_head : Option ℕ → List ℕ
flow_head cluster = codes "{" ++ (cluster_object cluster ++ codes "\"flowOf\":")

-- the object of a flow, of the cluster of this number
unfoldable pub flow_object : Option ℕ → LevelSaid → Line → List ℕ
flow_object cluster l line = flow_head cluster ++ (json_text l.name ++ (names_object line.names ++ (counts_object line.figures.sums ++ figures_object line.figures)))

-- the object of a level, if it is there with what its requests came to
abbrev pub level_by : Option ℕ → Option LevelSaid → Option LevelTable → List ℕ
level_by cluster None t = []
level_by cluster (Some l) None = []
level_by cluster (Some l) (Some t) = level_object cluster l t

-- the object of the level at this place
abbrev pub level_at : Option ℕ → List LevelSaid → List LevelTable → ℕ → List ℕ
level_at cluster levels tables place = level_by cluster (slice_get levels place) (slice_get tables place)

-- the object of a flow, if it is there
abbrev pub flow_by : Option ℕ → LevelSaid → Option Line → List ℕ
flow_by cluster l None = []
flow_by cluster l (Some line) = flow_object cluster l line

-- the object of the flow of this number, if its level is there
abbrev pub flow_in : Option ℕ → ℕ → Option LevelSaid → Option LevelTable → List ℕ
flow_in cluster flow None t = []
flow_in cluster flow (Some l) None = []
flow_in cluster flow (Some l) (Some t) = flow_by cluster l (slice_get t.table.lines.items flow)

-- the object of the flow that stands there
abbrev pub flow_at : Option ℕ → List LevelSaid → List LevelTable → FlowAt → List ℕ
flow_at cluster levels tables at = flow_in cluster at.flow (slice_get levels at.level) (slice_get tables at.level)

-- an object for each level
abbrev pub levels_text : Option ℕ → List LevelSaid → List LevelTable → List ℕ
levels_text cluster levels tables = flat_map (level_at cluster levels tables) (range_with_len 0 (length tables))

-- the object of the flow of this place
abbrev pub flow_of : List LevelSaid → List LevelTable → FlowPlace → List ℕ
flow_of levels tables place = flow_at None levels tables (record { level = place.level; flow = place.flow })

-- an object for each level, and one for each of these flows
abbrev pub objects_text : List LevelSaid → List LevelTable → List FlowPlace → List ℕ
objects_text levels tables places = levels_text None levels tables ++ flat_map (flow_of levels tables) places

-- the object of a flow of the cluster of this number, if there is one
abbrev pub side_flow : ℕ → SideSaid → Option FlowAt → List ℕ
side_flow cluster side None = []
side_flow cluster side (Some at) = flow_at (Some cluster) side.levels side.tables at

-- the objects of a pair
abbrev pub pair_objects : (first second : SideSaid) → FlowPair → List ℕ
pair_objects first second p = side_flow 1 first p.first ++ side_flow 2 second p.second

-- an object for each level of the first cluster, for each of the second one, and for each flow of these pairs
abbrev pub both_objects : (first second : SideSaid) → List FlowPair → List ℕ
both_objects first second pairs = levels_text (Some 1) first.levels first.tables ++ (levels_text (Some 2) second.levels second.tables ++ flat_map (pair_objects first second) pairs)
