-- What is printed of the levels of a cluster and of their flows.
use Rattle.std.specs.Prelude.{ℕ, ◌-◌, ◌*◌, ◌/◌, min, max, nat_eq, nat_lt, Bool, true, false, List, [], ◌∷◌, ◌++◌, length, slice_get, Option, Some, None, if◌then◌else◌, codes, decimal}
use Rattle.std.specs.List.{flat_map, range_with_len}
use Rattle.apf_flows.specs.Json.{escapes_of}
use Rattle.apf_flows.specs.Names.{names_text}
use Rattle.apf_objects.specs.Levels.{LevelSaid}
use Rattle.apf_objects.specs.declared.level.LevelSettings.{LevelSettings}
use Rattle.apf_rows.specs.declared.account.Figures.{Figures}
use Rattle.apf_rows.specs.declared.sums.Sums.{Sums}
use Rattle.apf_rows.specs.declared.table.Line.{Line}
use Rattle.apf_cluster_tables.specs.Limits.{limit_of}
use Rattle.apf_cluster_tables.specs.declared.level_table.LevelTable.{LevelTable}
use Rattle.apf_cluster_tables.specs.declared.order.FlowPlace.{FlowPlace}

-- a time that is given in microseconds, with its unit, less what is below one of it
abbrev pub time_text : ℕ → List ℕ
time_text time =
    if nat_lt time 1000 then decimal time ++ codes "us" else (if nat_lt time 10000000 then decimal (time / 1000) ++ codes "ms" else decimal (time / 1000000) ++ codes "s")

-- a mark before a percentile that is shortened
abbrev pub mark : Bool → List ℕ
mark true = codes " "
mark false = codes " ~"

-- a percentile of times, with a space before it
unfoldable pub percentile_text : Bool → ℕ → List ℕ
percentile_text is_exact time = mark is_exact ++ time_text time

-- when the last request of any level was over
abbrev pub end_of : List LevelTable → ℕ
end_of [] = 0
end_of (t ∷ tables) = max t.table.all.sums.last (end_of tables)

-- how many requests there were, and how they were decided
unfoldable pub counts_text : Sums → List ℕ
counts_text s = codes " " ++ decimal s.requests ++ codes " " ++ decimal s.executed ++ codes " " ++ decimal s.rejected ++ codes " " ++ decimal s.cancelled

-- how long they waited
unfoldable pub waits_text : Figures → List ℕ
waits_text f = percentile_text f.is_exact f.median ++ (percentile_text f.is_exact f.high ++ percentile_text true f.sums.longest)

-- the seats of a level that bound it: none where it is exempt
abbrev pub bound_of : LevelSettings → ℕ → ℕ
bound_of settings nominal = if settings.is_exempt then 0 else limit_of nominal

-- how much of so many seats was used up to this time, in per cent, less what is below one, and at most 10,000 times as much
abbrev pub part_text : (seat_time possible : ℕ) → List ℕ
part_text seat_time possible = if nat_eq possible 0 then codes " -" else codes " " ++ decimal (min seat_time (possible * 10000) * 100 / possible) ++ codes "%"

-- the least and the greatest of two limits, or one where they are the same
abbrev pub range_text : (least greatest : ℕ) → List ℕ
range_text least greatest = if nat_eq least greatest then codes " " ++ decimal least else codes " " ++ decimal least ++ codes ".." ++ decimal greatest

-- the limits that a level had: none where it is exempt
abbrev pub limits_text : LevelSettings → LevelTable → List ℕ
limits_text settings t = if settings.is_exempt then codes " -" else range_text t.least t.greatest

-- the nominal limit of a level, and the limits that it had
unfoldable pub seats_text : LevelSettings → LevelTable → List ℕ
seats_text settings t = (codes " " ++ decimal t.nominal) ++ limits_text settings t

unfoldable pub used_text : (seat_time seats time : ℕ) → List ℕ
used_text seat_time seats time = part_text seat_time (seats * time)

-- how many requests the server of the log turned away, and what was used from when on they are counted
unfoldable pub spent_text : LevelSettings → LevelTable → ℕ → List ℕ
spent_text settings t end = (codes " " ++ decimal t.turned_away) ++ used_text t.table.all.sums.seat_time (bound_of settings t.nominal) (end - t.since)

-- the columns of a level behind its name, each with a blank before it
unfoldable pub level_columns : LevelSettings → LevelTable → ℕ → List ℕ
level_columns settings t end = seats_text settings t ++ (counts_text t.table.all.sums ++ (spent_text settings t end ++ waits_text t.table.all))

-- the line of a level
unfoldable pub level_text : LevelSaid → LevelTable → ℕ → List ℕ
level_text l t end = escapes_of l.name ++ (level_columns l.settings t end ++ codes "\n")

-- the columns of a flow between the name of its level and its own names, each with a blank before it
unfoldable pub flow_columns : Figures → List ℕ
flow_columns f = counts_text f.sums ++ waits_text f

-- the line of a flow
unfoldable pub flow_text : LevelSaid → Line → List ℕ
flow_text l line = escapes_of l.name ++ (flow_columns line.figures ++ (names_text line.names ++ codes "\n"))

-- the line of a level, if it is there with what its requests came to
abbrev pub line_by : ℕ → Option LevelSaid → Option LevelTable → List ℕ
line_by end None t = []
line_by end (Some l) None = []
line_by end (Some l) (Some t) = level_text l t end

-- the line of the level at this place
abbrev pub line_at : ℕ → List LevelSaid → List LevelTable → ℕ → List ℕ
line_at end levels tables place = line_by end (slice_get levels place) (slice_get tables place)

-- the lines of the levels
abbrev pub lines_text : ℕ → List LevelSaid → List LevelTable → List ℕ
lines_text end levels tables = flat_map (line_at end levels tables) (range_with_len 0 (length tables))

-- the line of a flow, if it is there
abbrev pub flow_by : LevelSaid → Option Line → List ℕ
flow_by l None = []
flow_by l (Some line) = flow_text l line

-- the line of the flow of this number, if its level is there
abbrev pub flow_in : ℕ → Option LevelSaid → Option LevelTable → List ℕ
flow_in flow None t = []
flow_in flow (Some l) None = []
flow_in flow (Some l) (Some t) = flow_by l (slice_get t.table.lines.items flow)

-- the line of the flow of this place
abbrev pub flow_at : List LevelSaid → List LevelTable → FlowPlace → List ℕ
flow_at levels tables place = flow_in place.flow (slice_get levels place.level) (slice_get tables place.level)

-- the names of the columns of the levels
unfoldable pub level_names : List ℕ
level_names = codes "level nominal limits requests executed rejected timed-out log-429s used median p99 longest\n"

-- the names of the columns of the flows
unfoldable pub flow_names : List ℕ
flow_names = codes "\nflow-of requests executed rejected timed-out median p99 longest schema distinguisher\n"

-- a line of names, and the lines of the flows of these places; nothing where there are none
abbrev pub flows_text : List LevelSaid → List LevelTable → List FlowPlace → List ℕ
flows_text levels tables [] = []
flows_text levels tables (place ∷ places) = flow_names ++ flat_map (flow_at levels tables) (place ∷ places)

-- a line of names, the lines of the levels, and those of these flows
unfoldable pub tables_text : List LevelSaid → List LevelTable → List FlowPlace → List ℕ
tables_text levels tables places = level_names ++ (lines_text (end_of tables) levels tables ++ flows_text levels tables places)
