-- The order of schemas.
use Rattle.std.specs.Prelude.{ℕ, suc, List, [], ◌∷◌, Bool, ◌&&◌, ◌||◌, ◌==◌, nat_lt, if◌then◌else◌}
use Rattle.std.specs.Ordering.{nat_cmp, is_lt}
use Rattle.std.specs.Cmp.Lexicographic.{slice_cmp}
use Rattle.apf_objects.specs.Schemas.{SchemaSaid}

-- the one has less precedence, or the same and a name that comes before, byte by byte
abbrev pub comes_before : SchemaSaid → SchemaSaid → Bool
comes_before one other =
    nat_lt one.precedence other.precedence
    || ((one.precedence == other.precedence) && is_lt (slice_cmp nat_cmp one.name other.name))

-- the schemas with this one before the first that it comes before
abbrev pub insert : SchemaSaid → List SchemaSaid → List SchemaSaid
insert schema [] = schema ∷ []
insert schema (other ∷ others) = if comes_before schema other then schema ∷ other ∷ others else other ∷ insert schema others

-- the place of that one
abbrev pub place_for : SchemaSaid → List SchemaSaid → ℕ
place_for schema [] = 0
place_for schema (other ∷ others) = if comes_before schema other then 0 else suc (place_for schema others)

-- the schemas with others among them, each put where it belongs
abbrev pub insert_all : List SchemaSaid → List SchemaSaid → List SchemaSaid
insert_all placed [] = placed
insert_all placed (schema ∷ schemas) = insert_all (insert schema placed) schemas

-- the schemas in their order: less precedence first, and of one precedence by their names
abbrev pub in_order : List SchemaSaid → List SchemaSaid
in_order schemas = insert_all [] schemas
