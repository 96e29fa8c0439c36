use Rattle.std.proofs.Common.{◌≡◌, drop, map}
use Rattle.apf_objects.specs.Objects.{has_schema}
use Rattle.apf_objects.specs.Schemas.{schema_view}
use Rattle.apf_objects.proofs.objects.has_schema.Given as goal

abbrev pub invariant-loop-schema : goal.invariant-loop-schema
invariant-loop-schema l = has_schema (map schema_view l.schemas) l.name ≡ has_schema (map schema_view (drop l.schema-index l.schemas)) l.name
