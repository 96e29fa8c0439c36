-- The request of an audit event, and the level that it is of.
use Rattle.std.specs.Prelude.{ℕ, ◌-◌, List, [], ◌∷◌, Bool, false, nat_eq, Option, Some, None, option_and_then, slice_get}
use Rattle.std.specs.List.{filter}
use Rattle.apf_flow.specs.Flow.{flow_hash_of}
use Rattle.apf_times.specs.declared.window.Arrival.{Arrival}
use Rattle.apf_traces.specs.TraceValue.{Entry, entry}
use Rattle.apf_traces.specs.declared.request.TraceRequest.{TraceRequest}
use Rattle.apf_objects.specs.Cluster.{ClusterSaid}
use Rattle.apf_objects.specs.Levels.{LevelSaid}
use Rattle.apf_objects.specs.Rules.{Text}
use Rattle.apf_objects.specs.Schemas.{SchemaSaid}
use Rattle.apf_cluster_tables.specs.Sides.{level_named}
use Rattle.apf_audit.specs.AuditEvent.{Event}

-- what is said of a request that comes to a lane: its line, when it comes, and what it asks for
pub record Said : Type 0 where
  pub line : ℕ
  pub at : ℕ
  pub entry : Entry

abbrev pub said : Arrival TraceRequest → Said
said x = record { line = x.place.line; at = x.place.arrives_at; entry = entry x.item }

-- the request of an event of the schema of this name, which arrives at this time
abbrev pub asked_for : Text → ℕ → Event → Said
asked_for name at e = record {
  line = e.line;
  at = at;
  entry = record { arrives_at = at; runs_for = e.runs_for; hash = flow_hash_of name e.flow; names = Some (name, e.flow); width = e.width; cost = None };
}

-- the schema at this place, if there is one
abbrev pub schema_at : List SchemaSaid → Option ℕ → Option SchemaSaid
schema_at schemas place = option_and_then (slice_get schemas) place

-- the name of a schema
abbrev pub name_of : Option SchemaSaid → Text
name_of None = []
name_of (Some schema) = schema.name

-- the place of the level of a schema
abbrev pub level_by : List LevelSaid → Option SchemaSaid → Option ℕ
level_by levels None = None
level_by levels (Some schema) = level_named schema.level levels

-- the place of the level that the request of an event is of: that of its schema
abbrev pub level_of : ClusterSaid → Event → Option ℕ
level_of c e = level_by c.levels (schema_at c.schemas e.schema)

-- the request of an event, where the first one was received at this time
abbrev pub request_of : ClusterSaid → ℕ → Event → Said
request_of c start e = asked_for (name_of (schema_at c.schemas e.schema)) (e.received - start) e

-- this is the place
abbrev pub is_place : Option ℕ → ℕ → Bool
is_place None i = false
is_place (Some place) i = nat_eq place i

-- those of these events that are of the level at this place
abbrev pub of_level : ClusterSaid → ℕ → List Event → List Event
of_level c i told = filter (λ e. is_place (level_of c e) i) told

-- the time at which the first of these was received
abbrev pub start_of : List Event → ℕ
start_of [] = 0
start_of (e ∷ told) = e.received
