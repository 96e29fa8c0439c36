use Rattle.std.proofs.Common.{◌≡◌, ◌≤◌, drop, vec_len}
use Rattle.serde_json.specs.View.{items_view}
use Rattle.apf_objects.specs.Objects.{objects_view, objects_from, no_objects, max_levels}
use Rattle.apf_objects.proofs.objects.all_objects.Given as goal

abbrev pub invariant-loop-i : goal.invariant-loop-i
invariant-loop-i l = record {
  few : vec_len l.objects.levels ≤ max_levels;
  so_far : objects_from l.usual l.i (objects_view l.objects) (items_view (drop l.i l.items)) ≡ objects_from l.usual 0 no_objects (items_view l.items);
}
