use Rattle.std.proofs.Common.{◌≡◌, map, length}
use Rattle.apf_matching.specs.Misses.{furthest, furthest_from, rule_miss}
use Rattle.apf_objects.specs.Rules.{rule_view}
use Rattle.apf_matching.specs.Requests.{request_view}
use Rattle.apf_matching.specs.declared.miss.Miss.TheVariants as of_miss
use Rattle.apf_matching.proofs.miss.miss_of.Given as goal

abbrev pub invariant-loop-rule : goal.invariant-loop-rule
invariant-loop-rule l =
    furthest_from (rule_miss (request_view l.request)) l.miss (map rule_view l.rest) ≡ furthest of_miss.NoRule (rule_miss (request_view l.request)) (map rule_view l.schema.rules.items)

abbrev pub decreases-loop-rule : goal.decreases-loop-rule
decreases-loop-rule l = length l.rest
