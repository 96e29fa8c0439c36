-- The schema comes before none of the others so far.
use Rattle.std.proofs.Common.{◌≡◌, ◌+◌, drop, map}
use Rattle.apf_objects.specs.Order.{place_for}
use Rattle.apf_objects.specs.Schemas.{schema_view}
use Rattle.apf_changes.proofs.order.place_for.Given as goal

abbrev pub invariant-loop-i : goal.invariant-loop-i
invariant-loop-i l =
    l.i + place_for (schema_view l.schema) (map schema_view (drop l.i l.schemas)) ≡ place_for (schema_view l.schema) (map schema_view l.schemas)
