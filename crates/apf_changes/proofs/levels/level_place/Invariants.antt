-- The level has none of the names so far.
use Rattle.std.proofs.Common.{◌≡◌, drop, map}
use Rattle.apf_objects.specs.Levels.{level_view}
use Rattle.apf_matching.specs.First.{place_from}
use Rattle.apf_changes.specs.Lists.{is_level}
use Rattle.apf_changes.proofs.levels.level_place.Given as goal

abbrev pub invariant-loop-i : goal.invariant-loop-i
invariant-loop-i l = place_from (is_level l.name) 0 (map level_view l.levels) ≡ place_from (is_level l.name) l.i (map level_view (drop l.i l.levels))
