-- The schema that takes what no other does is there.
use Rattle.std.proofs.Common.{◌≡◌, List, [], ◌∷◌, Bool, true, false, refl, codes}
use Rattle.std.specs.Prelude.{◌||◌, if◌then◌else◌, bytes_eq}
use Rattle.apf_objects.specs.Cluster.{with_lacking_schema, with_own_schemas}
use Rattle.apf_objects.specs.Objects.{has_schema}
use Rattle.apf_objects.specs.Order.{comes_before, insert}
use Rattle.apf_objects.specs.Own.{catch_all_schema, exempt_schema}
use Rattle.apf_objects.specs.Schemas.{SchemaSaid}

either : (a : Bool) → (a || true) ≡ true
either true = refl
either false = refl

first_by : (schema other : SchemaSaid) (others : List SchemaSaid) (b : Bool) → bytes_eq schema.name schema.name ≡ true
    → has_schema (insert schema others) schema.name ≡ true
    → has_schema (if b then schema ∷ other ∷ others else other ∷ insert schema others) schema.name ≡ true
first_by schema other others true same later = rw same refl
first_by schema other others false same later = rw later (either _)

-- a schema that was put among others is there
has_inserted : (schema : SchemaSaid) (others : List SchemaSaid) → bytes_eq schema.name schema.name ≡ true
    → has_schema (insert schema others) schema.name ≡ true
has_inserted schema [] same = rw same refl
has_inserted schema (other ∷ others) same = first_by schema other others (comes_before schema other) same (has_inserted schema others same)

lacking_by : (schema : SchemaSaid) (others : List SchemaSaid) (b : Bool) → has_schema others schema.name ≡ b
    → bytes_eq schema.name schema.name ≡ true → has_schema (if b then others else insert schema others) schema.name ≡ true
lacking_by schema others true there same = there
lacking_by schema others false there same = has_inserted schema others same

pub catch_all : (schemas : List SchemaSaid) → has_schema (with_own_schemas schemas) (codes "catch-all") ≡ true
unfolding with_own_schemas
catch_all schemas =
    lacking_by catch_all_schema (with_lacking_schema exempt_schema schemas) (has_schema (with_lacking_schema exempt_schema schemas) (codes "catch-all")) refl refl
