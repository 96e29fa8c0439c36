-- The schemas so far are in their order.
use Rattle.std.proofs.Common.{◌≡◌, map}
use Rattle.std.specs.Vec.Iter.{into_iter_items, into_iter_len}
use Rattle.apf_objects.specs.Order.{insert_all, in_order}
use Rattle.apf_objects.specs.Schemas.{schema_view}
use Rattle.apf_changes.proofs.order.in_order.Given as goal

abbrev pub invariant-loop-schema : goal.invariant-loop-schema
invariant-loop-schema l = insert_all (map schema_view l.ordered.items) (map schema_view (into_iter_items l.rest)) ≡ in_order (map schema_view l.fn.schemas.items)

abbrev pub decreases-loop-schema : goal.decreases-loop-schema
decreases-loop-schema l = into_iter_len l.rest
