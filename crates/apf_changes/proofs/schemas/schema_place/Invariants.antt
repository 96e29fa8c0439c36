-- The schema has none of the names so far.
use Rattle.std.proofs.Common.{◌≡◌, drop, map}
use Rattle.apf_objects.specs.Schemas.{schema_view}
use Rattle.apf_matching.specs.First.{place_from}
use Rattle.apf_changes.specs.Lists.{is_schema}
use Rattle.apf_changes.proofs.schemas.schema_place.Given as goal

abbrev pub invariant-loop-i : goal.invariant-loop-i
invariant-loop-i l = place_from (is_schema l.name) 0 (map schema_view l.schemas) ≡ place_from (is_schema l.name) l.i (map schema_view (drop l.i l.schemas))
