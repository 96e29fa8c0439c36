-- The first schema that a request matches.
use Rattle.std.specs.Prelude.{◌≡◌, ℕ, suc, List, [], ◌∷◌, Bool, Option, Some, None, if◌then◌else◌, codes, bytes_eq}
use Rattle.apf_objects.specs.Rules.{Text}
use Rattle.apf_objects.specs.Schemas.{SchemaSaid}
use Rattle.apf_objects.specs.declared.schema.Distinguisher.{Distinguisher}
use Rattle.apf_objects.specs.declared.schema.Distinguisher.TheVariants.{Nothing, User, Namespace}
use Rattle.apf_matching.specs.Matches.{schema_matches}
use Rattle.apf_matching.specs.Requests.{RequestSaid, TargetSaid, of_resource, of_path}

-- the place of the first that passes the test, counted from this number
abbrev pub place_from : {A : Type 0} → (A → Bool) → ℕ → List A → Option ℕ
place_from test i [] = None
place_from test i (x ∷ xs) = if test x then Some i else place_from test (suc i) xs

-- the place of the first schema that matches
abbrev pub first_match : RequestSaid → List SchemaSaid → Option ℕ
first_match request schemas = place_from (schema_matches request) 0 schemas

-- the place of the schema of this name
abbrev pub place_named : Text → List SchemaSaid → Option ℕ
place_named name schemas = place_from (λ schema. bytes_eq schema.name name) 0 schemas

abbrev pub or_named : Text → List SchemaSaid → Option ℕ → Option ℕ
or_named name schemas (Some place) = Some place
or_named name schemas None = place_named name schemas

-- the place of the schema that a request is of: the first that matches, and `catch-all` where none does
unfoldable pub schema_of : RequestSaid → List SchemaSaid → Option ℕ
schema_of request schemas = or_named (codes "catch-all") schemas (first_match request schemas)

-- the request is of the schema at this place
abbrev pub IsSchemaFor : RequestSaid → List SchemaSaid → ℕ → Type 0
IsSchemaFor request schemas place = schema_of request schemas ≡ Some place

-- the namespace of a request, the empty text where it has none
abbrev pub namespace_of : TargetSaid → Text
namespace_of (of_resource api_group name namespace) = namespace
namespace_of (of_path text) = []

-- what tells the flow of a request from others of its schema
abbrev pub distinguisher_of : RequestSaid → Distinguisher → Text
distinguisher_of request Nothing = []
distinguisher_of request User = request.user
distinguisher_of request Namespace = namespace_of request.target
