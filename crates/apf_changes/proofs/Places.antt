-- A schema is put where it belongs.
use Rattle.std.proofs.Common.{◌≡◌, suc, List, [], ◌∷◌, ◌++◌, Bool, true, false, take, drop, map, refl, ap}
use Rattle.std.specs.Prelude.{if◌then◌else◌}
use Rattle.apf_objects.specs.Order.{comes_before, insert, place_for}
use Rattle.apf_objects.specs.Schemas.{schema_view}
use Rattle.apf_objects.specs.declared.schema.Schema.{Schema}

view_by : (schema other : Schema) (others : List Schema) (b : Bool)
    → map schema_view (take (place_for (schema_view schema) (map schema_view others)) others ++ schema ∷ drop (place_for (schema_view schema) (map schema_view others)) others)
    ≡ insert (schema_view schema) (map schema_view others)
    → map schema_view (take (if b then 0 else suc (place_for (schema_view schema) (map schema_view others))) (other ∷ others) ++ schema ∷ drop (if b then 0 else suc (place_for (schema_view schema) (map schema_view others))) (other ∷ others))
    ≡ (if b then schema_view schema ∷ schema_view other ∷ map schema_view others else schema_view other ∷ insert (schema_view schema) (map schema_view others))
view_by schema other others true later = refl
view_by schema other others false later = ap (λ xs. schema_view other ∷ xs) later

-- what the code puts at that place
pub insert_at_place : (schema : Schema) (others : List Schema)
    → map schema_view (take (place_for (schema_view schema) (map schema_view others)) others ++ schema ∷ drop (place_for (schema_view schema) (map schema_view others)) others)
    ≡ insert (schema_view schema) (map schema_view others)
insert_at_place schema [] = refl
insert_at_place schema (other ∷ others) =
    view_by schema other others (comes_before (schema_view schema) (schema_view other)) (insert_at_place schema others)
