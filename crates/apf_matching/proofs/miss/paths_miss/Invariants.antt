use Rattle.std.proofs.Common.{◌≡◌, map, length}
use Rattle.apf_matching.specs.Misses.{furthest, furthest_from, path_miss}
use Rattle.apf_objects.specs.Rules.{path_rule_view}
use Rattle.apf_matching.specs.declared.miss.Miss.TheVariants as of_miss
use Rattle.apf_matching.proofs.miss.paths_miss.Given as goal

abbrev pub invariant-loop-rule : goal.invariant-loop-rule
invariant-loop-rule l =
    furthest_from (path_miss l.verb l.path) l.miss (map path_rule_view l.rest) ≡ furthest of_miss.Rules (path_miss l.verb l.path) (map path_rule_view l.rules)

abbrev pub decreases-loop-rule : goal.decreases-loop-rule
decreases-loop-rule l = length l.rest
