use Rattle.std.proofs.Common.{◌≡◌, drop, map}
use Rattle.serde_json.specs.View.{items_view}
use Rattle.apf_objects.specs.Values.{each_from}
use Rattle.apf_objects.specs.Rules.{path_rule_view, path_rule_of, path_rules_of}
use Rattle.apf_objects.proofs.Lists.{with_front}
use Rattle.apf_objects.proofs.rule.requests.path_rules_of.Given as goal

abbrev pub invariant-loop-i : goal.invariant-loop-i
invariant-loop-i l =
    with_front (map path_rule_view l.rules.items)
    (each_from (λ i d. path_rule_of (record l.place { member = i }) d) l.i (items_view (drop l.i l.items)))
    ≡ path_rules_of l.place (items_view l.items)
