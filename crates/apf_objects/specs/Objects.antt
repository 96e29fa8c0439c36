-- The objects of a text, in the order of its items.
use Rattle.std.specs.Prelude.{ℕ, ◌+◌, List, [], ◌∷◌, ◌++◌, length, map, Bool, nat_le, nat_lt, Option, Some, None, option_and_then, is_some, if◌then◌else◌, Result, Ok, Err, codes, bytes_eq}
use Rattle.std.specs.List.{list_any}
use Rattle.serde_json.specs.Data.{Data, Items, no_items, item}
use Rattle.serde_json.specs.Find.{as_str, as_object}
use Rattle.apf_files.specs.FirstFault.{◌>>=◌, or_fault}
use Rattle.apf_files.specs.RequestsFile.{items_count}
use Rattle.apf_objects.specs.Rules.{Text}
use Rattle.apf_objects.specs.Levels.{LevelSaid, level_view, level_of}
use Rattle.apf_objects.specs.Schemas.{SchemaSaid, schema_view, schema_of}
use Rattle.apf_objects.specs.Values.{at}
use Rattle.apf_objects.specs.declared.fault.Place.{Place}
use Rattle.apf_objects.specs.declared.fault.ObjectFault.{ObjectFault}
use Rattle.apf_objects.specs.declared.fault.ObjectFault.TheVariants.{TooMany, NotObject, Missing, BadValue, Repeated, TooManyLevels}
use Rattle.apf_objects.specs.declared.key.ObjectKey.TheVariants as key
use Rattle.apf_objects.specs.declared.level.Version.{Version}
use Rattle.apf_objects.specs.declared.level.Version.TheVariants.{V1, V1beta3, V1beta2}
use Rattle.apf_objects.specs.declared.objects.ObjectKind.{ObjectKind}
use Rattle.apf_objects.specs.declared.objects.ObjectKind.TheVariants.{Level, Schema}
use Rattle.apf_objects.specs.declared.objects.Objects.{Objects}
use Rattle.apf_objects.specs.declared.objects.Usual.{Usual}

-- the objects of a text
pub record ObjectsSaid : Type 0 where
  pub levels : List LevelSaid
  pub schemas : List SchemaSaid

-- what the code holds
abbrev pub objects_view : Objects → ObjectsSaid
objects_view objects = record { levels = map level_view objects.levels.items; schemas = map schema_view objects.schemas.items }

-- the most objects, and the most levels among them
abbrev pub max_objects : ℕ
max_objects = 1000

abbrev pub max_levels : ℕ
max_levels = 64

-- the kind of this name
abbrev pub kind_named : Text → Option ObjectKind
kind_named name =
    if bytes_eq name (codes "PriorityLevelConfiguration") then Some Level else (if bytes_eq name (codes "FlowSchema") then Some Schema else None)

-- the version of this name
abbrev pub version_named : Text → Option Version
version_named name =
    if bytes_eq name (codes "flowcontrol.apiserver.k8s.io/v1") then Some V1
    else (if bytes_eq name (codes "flowcontrol.apiserver.k8s.io/v1beta3") then Some V1beta3
    else (if bytes_eq name (codes "flowcontrol.apiserver.k8s.io/v1beta2") then Some V1beta2 else None))

-- the kind of an item, which its list may say in its place
abbrev pub kind_by : Place → Option ObjectKind → Option Data → Result ObjectKind ObjectFault
kind_by place usual None = or_fault (Missing place key.Kind) usual
kind_by place usual (Some d) = or_fault (BadValue place key.Kind) (option_and_then kind_named (as_str d))

unfoldable pub kind_at : Place → Option ObjectKind → Data → Result ObjectKind ObjectFault
kind_at place usual d = kind_by place usual (at key.Kind (Some d))

-- the version that stands at a value's `apiVersion`, if one does
unfoldable pub version_seen : Data → Option Version
version_seen d = option_and_then version_named (option_and_then as_str (at key.ApiVersion (Some d)))

-- the version of an item, which its list may say in its place
unfoldable pub version_at : Place → Option Version → Data → Result Version ObjectFault
version_at place usual d =
    if is_some (at key.ApiVersion (Some d)) then or_fault (BadValue place key.ApiVersion) (version_seen d)
    else or_fault (Missing place key.ApiVersion) usual

-- one of the levels has the name
abbrev pub has_level : List LevelSaid → Text → Bool
has_level levels name = list_any (λ level. bytes_eq level.name name) levels

-- one of the schemas has the name
abbrev pub has_schema : List SchemaSaid → Text → Bool
has_schema schemas name = list_any (λ schema. bytes_eq schema.name name) schemas

-- one level more, whose name none has, and of which there are not too many
abbrev pub with_level : Place → List LevelSaid → LevelSaid → Result (List LevelSaid) ObjectFault
with_level place levels level =
    if has_level levels level.name then Err (Repeated place)
    else (if nat_le max_levels (length levels) then Err (TooManyLevels place) else Ok (levels ++ level ∷ []))

-- one schema more, whose name none has
abbrev pub with_schema : Place → List SchemaSaid → SchemaSaid → Result (List SchemaSaid) ObjectFault
with_schema place schemas schema = if has_schema schemas schema.name then Err (Repeated place) else Ok (schemas ++ schema ∷ [])

-- the objects with one more, of this kind
abbrev pub with_kind : ObjectKind → Version → Place → ObjectsSaid → Data → Result ObjectsSaid ObjectFault
with_kind Level version place objects d = do
  level ← level_of place version d
  levels ← with_level place objects.levels level
  Ok (record { levels = levels; schemas = objects.schemas })
with_kind Schema version place objects d = do
  schema ← schema_of place d
  schemas ← with_schema place objects.schemas schema
  Ok (record { levels = objects.levels; schemas = schemas })

-- the objects with the one that an item is, or the item's first fault
unfoldable pub with_item : Usual → Place → ObjectsSaid → Data → Result ObjectsSaid ObjectFault
with_item usual place objects d = do
  whole ← (if is_some (as_object d) then Ok d else Err (NotObject place))
  kind ← kind_at place usual.kind d
  version ← version_at place usual.version d
  with_kind kind version place objects d

-- the objects with those of these items, of which the first has this number, or the first fault
abbrev pub objects_from : Usual → ℕ → ObjectsSaid → Items → Result ObjectsSaid ObjectFault
objects_from usual i objects no_items = Ok objects
objects_from usual i objects (item d ds) =
    with_item usual (record { object = i; rule = 0; member = 0 }) objects d >>= (λ more. objects_from usual (i + 1) more ds)

abbrev pub no_objects : ObjectsSaid
no_objects = record { levels = []; schemas = [] }

-- the objects of these items, if they are not too many
abbrev pub objects_of : Usual → Items → Result ObjectsSaid ObjectFault
objects_of usual items = if nat_lt max_objects (items_count items) then Err TooMany else objects_from usual 0 no_objects items

-- the one object that a value is
abbrev pub one_object : Data → Result ObjectsSaid ObjectFault
one_object d = with_item (record { kind = None; version = None }) (record { object = 0; rule = 0; member = 0 }) no_objects d
