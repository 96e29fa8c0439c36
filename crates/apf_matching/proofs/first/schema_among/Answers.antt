use Rattle.std.proofs.Common.{◌≡◌, ◌∙◌, None, codes, map, sym}
use Rattle.std.specs.Prelude.{bytes_eq}
use Rattle.apf_objects.specs.Schemas.{schema_view}
use Rattle.apf_matching.specs.First.{place_named}
use Rattle.apf_matching.proofs.Places.{is_somewhere}
use Rattle.apf_matching.proofs.first.schema_among.Goals as goal

pub returns-in-None-clause-some : goal.returns-in-None-clause-some
returns-in-None-clause-some c some nowhere =
    let lacks : place_named (codes "catch-all") (map schema_view c.args.schemas.now) ≡ None = sym c.place_of.ensures.value ∙ nowhere in
    is_somewhere (λ schema. bytes_eq schema.name (codes "catch-all")) 0 (map schema_view c.args.schemas.now) lacks some
