use Rattle.std.proofs.Common.{◌≡◌, drop, map}
use Rattle.serde_json.specs.View.{items_view}
use Rattle.apf_objects.specs.Values.{each_from}
use Rattle.apf_objects.specs.Rules.{subject_view, subject_of, subjects_of}
use Rattle.apf_objects.proofs.Lists.{with_front}
use Rattle.apf_objects.proofs.rule.subject.subjects_of.Given as goal

abbrev pub invariant-loop-i : goal.invariant-loop-i
invariant-loop-i l =
    with_front (map subject_view l.subjects.items)
    (each_from (λ i d. subject_of (record l.place { member = i }) d) l.i (items_view (drop l.i l.items)))
    ≡ subjects_of l.place (items_view l.items)
