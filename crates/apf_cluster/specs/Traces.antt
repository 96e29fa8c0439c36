-- The requests of a level, as a trace.
use Rattle.std.specs.Prelude.{◌≡◌, Bool, ℕ, ◌-◌, List, [], ◌++◌, Option, if◌then◌else◌}
use Rattle.std.specs.List.{flat_map}
use Rattle.std.specs.Option.{option_to_list}
use Rattle.std.specs.Io.KnownBytes.{Appends}
use Rattle.apf_objects.specs.Cluster.{ClusterSaid}
use Rattle.apf_objects.specs.Rules.{Text}
use Rattle.apf_audit.specs.AuditEvent.{Event}
use Rattle.apf_audit.specs.TraceText.{line_text}
use Rattle.apf_audit.specs.declared.choice.Choice.{Choice}
use Rattle.apf_joined_reader.specs.Joins.{Join, all_joined}
use Rattle.apf_joined_reader.specs.Reading.{AreAll, Inputs, JoinedView}
use Rattle.apf_cluster.specs.Requests.{is_place, level_of, name_of, schema_at, start_of}
use Rattle.apf_cluster.specs.Runs.{HasFed}

-- the line of the request of an event of the schema of this name, which arrives at this time
abbrev pub line_of : Text → ℕ → Event → List ℕ
line_of name at e = line_text name e at

-- the line of the request of an event, if it is of the level at this place, where the first one was received at this time
abbrev pub lines_of : ClusterSaid → (place start : ℕ) → Event → List ℕ
lines_of c place start e = if is_place (level_of c e) place then line_of (name_of (schema_at c.schemas e.schema)) (e.received - start) e else []

-- the lines of those that are of the level at this place
abbrev pub trace_text : ClusterSaid → (place start : ℕ) → List Event → List ℕ
trace_text c place start told = flat_map (lines_of c place start) told

-- these were handed out, and their lines were written
pub record HaveWritten (choice : Choice) (c : ClusterSaid) (place start : ℕ) (was left : Inputs) (next : Option Event) (v : JoinedView) (before after : Option (List ℕ)) : Type 0 where
  pub told : List Event
  pub fed : HasFed choice was left told next v
  pub written : Appends before after (trace_text c place start told)
  pub start_is : start ≡ start_of (told ++ option_to_list next)

-- The whole log was read, and just the lines of its requests that are of the level at this place were written, in their order, each with what its line of the server's own log says
pub record HasWrittenTrace (choice : Choice) (c : ClusterSaid) (place size : ℕ) (has_lines : Bool) (was left : Inputs) (v : JoinedView) (before after : Option (List ℕ)) : Type 0 where
  pub joins : List Join
  pub all : AreAll choice size has_lines was left joins v
  pub written : Appends before after (trace_text c place (start_of (all_joined joins)) (all_joined joins))
