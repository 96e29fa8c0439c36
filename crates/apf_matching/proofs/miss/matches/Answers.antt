use Rattle.std.proofs.Common.{◌≡◌, ◌∙◌, ap, rules}
use Rattle.std.specs.Prelude.{is_none}
use Rattle.apf_objects.specs.Schemas.{schema_view}
use Rattle.apf_matching.specs.Requests.{request_view}
use Rattle.apf_matching.specs.Matches.{schema_matches}
use Rattle.apf_matching.proofs.Agree.{none_where_it_matches}
use Rattle.apf_matching.proofs.miss.matches.Goals as goal

pub returns : goal.returns
returns c =
    let same : is_none c.miss_of.result ≡ schema_matches (request_view c.args.request.now) (schema_view c.args.schema.now) =
    ap is_none c.miss_of.ensures ∙ none_where_it_matches _ _ in
    let told : c.is_none.result ≡ is_none c.miss_of.result = search rules in
    told ∙ same
