use Rattle.std.proofs.Common.{◌≡◌, ◌++◌, map, filter}
use Rattle.std.specs.Prelude.{not}
use Rattle.std.specs.Vec.Iter.{into_iter_items, into_iter_len}
use Rattle.apf_objects.specs.Cluster.{has_its_level, placed, dangling}
use Rattle.apf_objects.specs.Levels.{level_view}
use Rattle.apf_objects.specs.Order.{insert_all}
use Rattle.apf_objects.specs.Schemas.{schema_view}
use Rattle.apf_objects.proofs.cluster.split.Given as goal

abbrev pub invariant-loop-schema : goal.invariant-loop-schema
invariant-loop-schema l = record {
  schemas : insert_all (map schema_view l.schemas.items) (filter (has_its_level (map level_view l.levels)) (map schema_view (into_iter_items l.rest)))
      ≡ placed (map level_view l.levels) (map schema_view l.fn.all.items);
  dangling : map schema_view l.dangling.items
      ++ filter (λ schema. not (has_its_level (map level_view l.levels) schema)) (map schema_view (into_iter_items l.rest))
      ≡ dangling (map level_view l.levels) (map schema_view l.fn.all.items);
}

abbrev pub decreases-loop-schema : goal.decreases-loop-schema
decreases-loop-schema l = into_iter_len l.rest
