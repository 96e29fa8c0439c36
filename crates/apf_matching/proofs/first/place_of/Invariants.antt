use Rattle.std.proofs.Common.{◌≡◌, drop, map}
use Rattle.apf_matching.specs.First.{place_named, place_from}
use Rattle.apf_objects.specs.Schemas.{schema_view}
use Rattle.std.specs.Prelude.{bytes_eq}
use Rattle.apf_matching.proofs.first.place_of.Given as goal

abbrev pub invariant-loop-i : goal.invariant-loop-i
invariant-loop-i l =
    place_named l.name (map schema_view l.schemas) ≡ place_from (λ schema. bytes_eq schema.name l.name) l.i (map schema_view (drop l.i l.schemas))
