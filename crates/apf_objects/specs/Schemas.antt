-- The schemas, as a text of objects says them.
use Rattle.std.specs.Prelude.{ℕ, List, map, Option, Some, None, if◌then◌else◌, Result, Ok, Err, codes, bytes_eq, string_bytes}
use Rattle.serde_json.specs.Data.{Data}
use Rattle.apf_files.specs.FirstFault.{◌>>=◌}
use Rattle.apf_objects.specs.Rules.{Text, RuleSaid, rule_view, rules_at}
use Rattle.apf_objects.specs.Levels.{name_of}
use Rattle.apf_objects.specs.Values.{part_at, text_at, number_at}
use Rattle.apf_objects.specs.declared.fault.Place.{Place}
use Rattle.apf_objects.specs.declared.fault.ObjectFault.{ObjectFault}
use Rattle.apf_objects.specs.declared.fault.ObjectFault.TheVariants.{BadValue}
use Rattle.apf_objects.specs.declared.key.ObjectKey.TheVariants as key
use Rattle.apf_objects.specs.declared.schema.Distinguisher.{Distinguisher}
use Rattle.apf_objects.specs.declared.schema.Distinguisher.TheVariants.{Nothing, User, Namespace}
use Rattle.apf_objects.specs.declared.schema.Schema.{Schema}

-- a schema
pub record SchemaSaid : Type 0 where
  pub name : Text
  pub level : Text
  pub precedence : ℕ
  pub distinguisher : Distinguisher
  pub rules : List RuleSaid

-- what the code holds
abbrev pub schema_view : Schema → SchemaSaid
schema_view schema = record {
  name = string_bytes schema.name;
  level = string_bytes schema.level;
  precedence = schema.precedence;
  distinguisher = schema.distinguisher;
  rules = map rule_view schema.rules.items;
}

-- the largest precedence
abbrev pub max_precedence : ℕ
max_precedence = 10000

-- what makes a flow, by the name of the method
abbrev pub distinguisher_named : Place → Text → Result Distinguisher ObjectFault
distinguisher_named place name =
    if bytes_eq name (codes "ByUser") then Ok User
    else (if bytes_eq name (codes "ByNamespace") then Ok Namespace else Err (BadValue place key.DistinguisherType))

abbrev pub distinguisher_by : Place → Option Data → Result Distinguisher ObjectFault
distinguisher_by place None = Ok Nothing
distinguisher_by place (Some method) = text_at place key.DistinguisherType (Some method) >>= distinguisher_named place

-- what makes a flow; without a method all requests are of one flow
unfoldable pub distinguisher_at : Place → Option Data → Result Distinguisher ObjectFault
distinguisher_at place body = part_at place key.DistinguisherMethod body >>= distinguisher_by place

-- the schema that an object is, or its first fault
unfoldable pub schema_of : Place → Data → Result SchemaSaid ObjectFault
schema_of place d = do
  name ← name_of place d
  body ← part_at place key.Spec (Some d)
  reference ← part_at place key.LevelReference body
  level ← text_at place key.LevelName reference
  precedence ← number_at place key.MatchingPrecedence 1 max_precedence 1000 body
  distinguisher ← distinguisher_at place body
  rules ← rules_at place body
  Ok (record { name = name; level = level; precedence = precedence; distinguisher = distinguisher; rules = rules })
