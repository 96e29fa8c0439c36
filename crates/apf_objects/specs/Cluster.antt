-- The levels of a cluster, and its schemas in their order.
use Rattle.std.specs.Prelude.{◌≡◌, ℕ, List, ◌∷◌, [], ◌++◌, map, filter, not, Bool, true, Option, Some, None, option_and_then, is_some, if◌then◌else◌, Result, Ok, Err, codes, bytes_eq}
use Rattle.serde_json.specs.Data.{Data, Items}
use Rattle.serde_json.specs.Find.{as_str, as_array}
use Rattle.apf_files.specs.FirstFault.{◌>>=◌, or_fault}
use Rattle.apf_files.specs.JsonFile.{IsJudgementOf}
use Rattle.apf_objects.specs.Levels.{LevelSaid, level_view}
use Rattle.apf_objects.specs.Objects.{ObjectsSaid, has_level, has_schema, kind_named, objects_of, one_object, version_seen}
use Rattle.apf_objects.specs.Order.{insert, in_order}
use Rattle.apf_objects.specs.Own.{exempt_level, catch_all_level, exempt_schema, catch_all_schema}
use Rattle.apf_objects.specs.Rules.{Text}
use Rattle.apf_objects.specs.Schemas.{SchemaSaid, schema_view}
use Rattle.apf_objects.specs.Values.{at}
use Rattle.apf_objects.specs.declared.cluster.Cluster.{Cluster}
use Rattle.apf_objects.specs.declared.fault.ObjectFault.{ObjectFault}
use Rattle.apf_objects.specs.declared.fault.ObjectFault.TheVariants.{NotJson, NoObjects, BadItems}
use Rattle.apf_objects.specs.declared.key.ObjectKey.TheVariants as key
use Rattle.apf_objects.specs.declared.level.Version.{Version}
use Rattle.apf_objects.specs.declared.objects.ObjectKind.TheVariants.{Level, Schema}
use Rattle.apf_objects.specs.declared.objects.Usual.{Usual}

-- the levels, the schemas in their order, and those whose level is not there
pub record ClusterSaid : Type 0 where
  pub levels : List LevelSaid
  pub schemas : List SchemaSaid
  pub dangling : List SchemaSaid

-- what the code holds
abbrev pub cluster_view : Cluster → ClusterSaid
cluster_view cluster = record {
  levels = map level_view cluster.levels.items;
  schemas = map schema_view cluster.schemas.items;
  dangling = map schema_view cluster.dangling.items;
}

-- the levels, with this one where none has its name
abbrev pub with_lacking_level : LevelSaid → List LevelSaid → List LevelSaid
with_lacking_level level levels = if has_level levels level.name then levels else levels ++ level ∷ []

-- the schemas, with this one where none has its name
abbrev pub with_lacking_schema : SchemaSaid → List SchemaSaid → List SchemaSaid
with_lacking_schema schema schemas = if has_schema schemas schema.name then schemas else insert schema schemas

-- the same with the server's own
unfoldable pub with_own_levels : List LevelSaid → List LevelSaid
with_own_levels levels = with_lacking_level catch_all_level (with_lacking_level exempt_level levels)

unfoldable pub with_own_schemas : List SchemaSaid → List SchemaSaid
with_own_schemas schemas = with_lacking_schema catch_all_schema (with_lacking_schema exempt_schema schemas)

-- the level of the schema is there
abbrev pub has_its_level : List LevelSaid → SchemaSaid → Bool
has_its_level levels schema = has_level levels schema.level

-- the schemas whose level is there, in their order
abbrev pub placed : List LevelSaid → List SchemaSaid → List SchemaSaid
placed levels schemas = in_order (filter (has_its_level levels) schemas)

-- the schemas whose level is not there
abbrev pub dangling : List LevelSaid → List SchemaSaid → List SchemaSaid
dangling levels schemas = filter (λ schema. not (has_its_level levels schema)) schemas

-- the cluster of the objects of a text
unfoldable pub cluster_of : ObjectsSaid → ClusterSaid
cluster_of objects = record {
  levels = with_own_levels objects.levels;
  schemas = with_own_schemas (placed (with_own_levels objects.levels) objects.schemas);
  dangling = dangling (with_own_levels objects.levels) objects.schemas;
}

-- what the items of a list of this kind are where they do not say it, and none where no list is of this kind
abbrev pub usual_of : Text → Option Version → Option Usual
usual_of kind version =
    if bytes_eq kind (codes "List") then Some (record { kind = None; version = None })
    else (if bytes_eq kind (codes "FlowSchemaList") then Some (record { kind = Some Schema; version = version })
    else (if bytes_eq kind (codes "PriorityLevelConfigurationList") then Some (record { kind = Some Level; version = version }) else None))

-- the items of a list
unfoldable pub items_of_list : Data → Result Items ObjectFault
items_of_list d = or_fault BadItems (option_and_then as_array (at key.Items (Some d)))

-- the objects of a list, or the one object
abbrev pub objects_by : Text → Data → Option Usual → Result ObjectsSaid ObjectFault
objects_by kind d (Some usual) = items_of_list d >>= objects_of usual
objects_by kind d None =
    if is_some (kind_named kind) then one_object d else Err NoObjects

unfoldable pub objects_of_kind : Text → Data → Result ObjectsSaid ObjectFault
objects_of_kind kind d = objects_by kind d (usual_of kind (version_seen d))

-- the kind that the text itself is of
unfoldable pub kind_of_text : Data → Result Text ObjectFault
kind_of_text d = or_fault NoObjects (option_and_then as_str (at key.Kind (Some d)))

-- the cluster that a value says, or its first fault
unfoldable pub cluster_in : Data → Result ClusterSaid ObjectFault
cluster_in d = do
  kind ← kind_of_text d
  objects ← objects_of_kind kind d
  Ok (cluster_of objects)

-- the answer that the bytes of a text have
abbrev pub IsClusterOf : List ℕ → Result ClusterSaid ObjectFault → Type 0
IsClusterOf bytes answer = IsJudgementOf NotJson cluster_in bytes answer

-- the schema that takes what no other does is there
abbrev pub HasCatchAll : Cluster → Type 0
HasCatchAll cluster = has_schema (map schema_view cluster.schemas.items) (codes "catch-all") ≡ true

-- the most levels of a cluster: 64 of the text, and the server's own
abbrev pub most_levels : ℕ
most_levels = 66
