use Rattle.std.proofs.Common.{◌≡◌, drop, map}
use Rattle.apf_objects.specs.Objects.{has_level}
use Rattle.apf_objects.specs.Levels.{level_view}
use Rattle.apf_objects.proofs.objects.has_level.Given as goal

abbrev pub invariant-loop-level : goal.invariant-loop-level
invariant-loop-level l = has_level (map level_view l.levels) l.name ≡ has_level (map level_view (drop l.level-index l.levels)) l.name
