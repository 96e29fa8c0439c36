use Rattle.std.proofs.Common.{◌≡◌, drop, map}
use Rattle.apf_matching.specs.First.{first_match, place_from}
use Rattle.apf_objects.specs.Schemas.{schema_view}
use Rattle.apf_matching.specs.Requests.{request_view}
use Rattle.apf_matching.specs.Matches.{schema_matches}
use Rattle.apf_matching.proofs.first.first_match.Given as goal

abbrev pub invariant-loop-i : goal.invariant-loop-i
invariant-loop-i l =
    first_match (request_view l.request) (map schema_view l.schemas) ≡ place_from (schema_matches (request_view l.request)) l.i (map schema_view (drop l.i l.schemas))
