use Rattle.std.proofs.Common.{◌≡◌, drop, map}
use Rattle.apf_matching.specs.Matches.{has_subject}
use Rattle.apf_objects.specs.Rules.{subject_view}
use Rattle.apf_matching.specs.Requests.{request_view}
use Rattle.apf_matching.proofs.subject.has_subject.Given as goal

abbrev pub invariant-loop-subject : goal.invariant-loop-subject
invariant-loop-subject l =
    has_subject (request_view l.request) (map subject_view l.subjects) ≡ has_subject (request_view l.request) (map subject_view (drop l.subject-index l.subjects))
