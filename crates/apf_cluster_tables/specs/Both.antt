-- What is printed of the levels of two clusters, one beside the other, and of their flows.
use Rattle.std.specs.Prelude.{ℕ, zero, suc, List, [], ◌∷◌, ◌++◌, slice_get, Option, Some, None, is_some, if◌then◌else◌, bytes_eq, codes}
use Rattle.std.specs.List.{flat_map}
use Rattle.std.specs.Option.{option_or}
use Rattle.apf_flows.specs.Json.{escapes_of}
use Rattle.apf_flows.specs.Names.{names_text}
use Rattle.apf_objects.specs.Levels.{LevelSaid}
use Rattle.apf_objects.specs.Rules.{Text}
use Rattle.apf_rows.specs.declared.table.Line.{Line}
use Rattle.apf_cluster_tables.specs.Beside.{columns_beside}
use Rattle.apf_cluster_tables.specs.Sides.{SideSaid, level_named}
use Rattle.apf_cluster_tables.specs.Texts.{end_of, flow_columns, flow_names, level_columns, level_names}
use Rattle.apf_cluster_tables.specs.declared.level_table.LevelTable.{LevelTable}
use Rattle.apf_cluster_tables.specs.declared.flows.FlowAt.{FlowAt}
use Rattle.apf_cluster_tables.specs.declared.pairs.FlowPair.{FlowPair}

-- how many columns a level has behind its name
abbrev pub level_width : ℕ
level_width = 11

-- how many columns a flow has between the name of its level and its own names
abbrev pub flow_width : ℕ
flow_width = 7

-- this many columns of what is not there
abbrev pub absent : ℕ → List ℕ
absent zero = []
absent (suc columns) = codes " -" ++ absent columns

-- the columns of a level, if it is there with what its requests came to
abbrev pub columns_by : ℕ → Option LevelSaid → Option LevelTable → List ℕ
columns_by end None t = absent level_width
columns_by end (Some l) None = absent level_width
columns_by end (Some l) (Some t) = level_columns l.settings t end

-- the columns of the level at this place
abbrev pub columns_at : SideSaid → Option ℕ → List ℕ
columns_at side None = absent level_width
columns_at side (Some place) = columns_by (end_of side.tables) (slice_get side.levels place) (slice_get side.tables place)

-- the columns of the level of this name
abbrev pub columns_of : SideSaid → Text → List ℕ
columns_of side name = columns_at side (level_named name side.levels)

-- the line of the levels of a name, which have these columns
unfoldable pub line_of : Text → (one other : List ℕ) → List ℕ
line_of name one other = escapes_of name ++ (columns_beside level_width one other ++ codes "\n")

-- the line of the levels of this name
abbrev pub level_line : (first second : SideSaid) → Text → List ℕ
level_line first second name = line_of name (columns_of first name) (columns_of second name)

-- the lines of the levels of the first cluster
abbrev pub first_lines : (first second : SideSaid) → List ℕ
first_lines first second = flat_map (λ (l : LevelSaid). level_line first second l.name) first.levels

-- the line of a level of the second cluster, if the first one has none of this name
abbrev pub new_line : (first second : SideSaid) → LevelSaid → List ℕ
new_line first second l = if is_some (level_named l.name first.levels) then [] else level_line first second l.name

-- the lines of the levels that only the second cluster has
abbrev pub new_lines : (first second : SideSaid) → List ℕ
new_lines first second = flat_map (new_line first second) second.levels

-- a flow that is printed: the name of its level, and its line
pub record FlowShown : Type 0 where
  pub of : Text
  pub line : Line

abbrev pub shown_by : Option LevelSaid → Option Line → Option FlowShown
shown_by None line = None
shown_by (Some l) None = None
shown_by (Some l) (Some line) = Some (record { of = l.name; line = line })

-- the line of this number, if the table is there
abbrev pub line_in : Option LevelTable → ℕ → Option Line
line_in None flow = None
line_in (Some t) flow = slice_get t.table.lines.items flow

-- the flow that stands there, if it is there
abbrev pub shown_at : SideSaid → Option FlowAt → Option FlowShown
shown_at side None = None
shown_at side (Some at) = shown_by (slice_get side.levels at.level) (line_in (slice_get side.tables at.level) at.flow)

-- two names of levels: one of them where they are the same
abbrev pub two_levels : Text → Text → List ℕ
two_levels a b = if bytes_eq a b then escapes_of a else escapes_of a ++ (codes ">" ++ escapes_of b)

-- the names of the levels of two flows: one of them where they are the same, or where only one is there
abbrev pub levels_text : Option FlowShown → Option FlowShown → List ℕ
levels_text None None = []
levels_text None (Some b) = escapes_of b.of
levels_text (Some a) None = escapes_of a.of
levels_text (Some a) (Some b) = two_levels a.of b.of

-- the columns of a flow, if it is there
abbrev pub flow_columns_of : Option FlowShown → List ℕ
flow_columns_of None = absent flow_width
flow_columns_of (Some f) = flow_columns f.line.figures

-- the two names of a flow
abbrev pub names_of : Option FlowShown → List ℕ
names_of None = []
names_of (Some f) = names_text f.line.names

-- the line of two flows, which have these columns
unfoldable pub line_with : Option FlowShown → Option FlowShown → (one other : List ℕ) → List ℕ
line_with a b one other = levels_text a b ++ (columns_beside flow_width one other ++ (names_of (option_or a b) ++ codes "\n"))

-- the line of two flows, of which one is there
abbrev pub flows_line : Option FlowShown → Option FlowShown → List ℕ
flows_line a b = line_with a b (flow_columns_of a) (flow_columns_of b)

-- the line of two flows, if one is there
abbrev pub line_by : Option FlowShown → Option FlowShown → List ℕ
line_by None None = []
line_by None (Some b) = flows_line None (Some b)
line_by (Some a) b = flows_line (Some a) b

-- the line of a pair
abbrev pub pair_line : (first second : SideSaid) → FlowPair → List ℕ
pair_line first second p = line_by (shown_at first p.first) (shown_at second p.second)

-- a line of names, and the lines of these pairs; nothing where there are none
abbrev pub pairs_text : (first second : SideSaid) → List FlowPair → List ℕ
pairs_text first second [] = []
pairs_text first second (p ∷ pairs) = flow_names ++ flat_map (pair_line first second) (p ∷ pairs)

-- a line of names, the lines of the levels of the first cluster, those of the levels that only the second one has, and those of these pairs
unfoldable pub both_text : (first second : SideSaid) → List FlowPair → List ℕ
both_text first second pairs = level_names ++ (first_lines first second ++ (new_lines first second ++ pairs_text first second pairs))
