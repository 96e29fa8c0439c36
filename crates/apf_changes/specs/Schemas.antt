-- The schemas with a change.
use Rattle.std.specs.Prelude.{List, Option, Some, None, find, is_some, if◌then◌else◌, Result, Ok, Err}
use Rattle.apf_files.specs.FirstFault.{◌>>=◌, or_fault}
use Rattle.apf_objects.specs.Cluster.{ClusterSaid}
use Rattle.apf_objects.specs.Levels.{LevelSaid}
use Rattle.apf_objects.specs.Order.{insert, in_order}
use Rattle.apf_objects.specs.Rules.{Text}
use Rattle.apf_objects.specs.Schemas.{SchemaSaid, max_precedence}
use Rattle.apf_objects.specs.declared.schema.Distinguisher.{Distinguisher}
use Rattle.apf_changes.specs.Amounts.{judged}
use Rattle.apf_changes.specs.Lists.{is_level, is_schema, replaced, without}
use Rattle.apf_changes.specs.declared.change.Amount.{Amount}
use Rattle.apf_changes.specs.declared.change.SchemaChange.{SchemaChange}
use Rattle.apf_changes.specs.declared.change.SchemaChange.TheVariants.{Precedence, By}
use Rattle.apf_changes.specs.declared.fault.ChangeFault.{ChangeFault}
use Rattle.apf_changes.specs.declared.fault.ChangeFault.TheVariants.{NoLevel, NoSchema, Dangling}

-- why a schema of this name is refused that is none of those whose level is there, where these dangle
abbrev pub absent : Text → (dangling : List SchemaSaid) → ChangeFault
absent name dangling = if is_some (find (is_schema name) dangling) then Dangling else NoSchema

-- the schema of this name, whose level has to be there
abbrev pub the_schema : Text → (dangling schemas : List SchemaSaid) → Result SchemaSaid ChangeFault
the_schema name dangling schemas = or_fault (absent name dangling) (find (is_schema name) schemas)

-- the schemas with another precedence of the one of this name, in their order
unfoldable pub with_precedence : Amount → Text → (dangling schemas : List SchemaSaid) → Result (List SchemaSaid) ChangeFault
with_precedence amount name dangling schemas = do
  schema ← the_schema name dangling schemas
  precedence ← judged amount (Some schema.precedence) (record { low = 1; high = max_precedence })
  Ok (in_order (replaced (is_schema name) (record schema { precedence = precedence }) schemas))

-- the schemas with another distinguisher of the one of this name
unfoldable pub with_distinguisher : Distinguisher → Text → (dangling schemas : List SchemaSaid) → Result (List SchemaSaid) ChangeFault
with_distinguisher distinguisher name dangling schemas = do
  schema ← the_schema name dangling schemas
  Ok (replaced (is_schema name) (record schema { distinguisher = distinguisher }) schemas)

-- the schemas with a change of the one of this name
abbrev pub schemas_with : SchemaChange → Text → (dangling schemas : List SchemaSaid) → Result (List SchemaSaid) ChangeFault
schemas_with (Precedence amount) name dangling schemas = with_precedence amount name dangling schemas
schemas_with (By distinguisher) name dangling schemas = with_distinguisher distinguisher name dangling schemas

-- the cluster with a change of the schema of this name
unfoldable pub with_schema_change : SchemaChange → Text → ClusterSaid → Result ClusterSaid ChangeFault
with_schema_change change name cluster =
    schemas_with change name cluster.dangling cluster.schemas >>= (λ schemas. Ok (record cluster { schemas = schemas }))

-- the name of a level, which has to be there
abbrev pub level_name : Text → List LevelSaid → Result Text ChangeFault
level_name name levels = if is_some (find (is_level name) levels) then Ok name else Err NoLevel

-- the cluster with the schema of this name at another level
abbrev pub moved : (name level : Text) → SchemaSaid → ClusterSaid → ClusterSaid
moved name level schema cluster = record cluster { schemas = replaced (is_schema name) (record schema { level = level }) cluster.schemas }

-- the cluster with the schema of this name, which dangled, at a level: it is put before the first that it comes before
abbrev pub placed : (name level : Text) → SchemaSaid → ClusterSaid → ClusterSaid
placed name level schema cluster = record cluster {
  schemas = insert (record schema { level = level }) cluster.schemas;
  dangling = without (is_schema name) cluster.dangling;
}

-- the cluster with a schema at another level: with this one, whose level is there, or else with that one, which dangles
abbrev pub levelled : (name level : Text) → ClusterSaid → (there dangling : Option SchemaSaid) → Result ClusterSaid ChangeFault
levelled name level cluster (Some schema) dangling = level_name level cluster.levels >>= (λ known. Ok (moved name known schema cluster))
levelled name level cluster None (Some schema) = level_name level cluster.levels >>= (λ known. Ok (placed name known schema cluster))
levelled name level cluster None None = Err NoSchema

-- the cluster with the schema of this name at another level
unfoldable pub with_schema_level : (name level : Text) → ClusterSaid → Result ClusterSaid ChangeFault
with_schema_level name level cluster =
    levelled name level cluster (find (is_schema name) cluster.schemas) (find (is_schema name) cluster.dangling)
