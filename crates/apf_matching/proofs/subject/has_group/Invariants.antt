use Rattle.std.proofs.Common.{◌≡◌, drop}
use Rattle.apf_matching.specs.Matches.{has_group}
use Rattle.apf_matching.specs.Requests.{texts_view}
use Rattle.apf_matching.proofs.subject.has_group.Given as goal

abbrev pub invariant-loop-group : goal.invariant-loop-group
invariant-loop-group l =
    has_group (texts_view l.groups) l.name ≡ has_group (texts_view (drop l.group-index l.groups)) l.name
