-- The schemas have the names that they had.
use Rattle.std.proofs.Common.{◌≡◌, ◌∙◌, ℕ, List, [], ◌∷◌, Bool, true, false, Option, Some, None, Result, Ok, Err, refl, sym, ap}
use Rattle.std.specs.Prelude.{◌||◌, if◌then◌else◌, find}
use Rattle.std.specs.List.{list_any}
use Rattle.apf_files.specs.FirstFault.{◌>>=◌, or_fault}
use Rattle.apf_objects.specs.Cluster.{ClusterSaid}
use Rattle.apf_objects.specs.Objects.{has_schema}
use Rattle.apf_objects.specs.Order.{comes_before, insert, insert_all, in_order}
use Rattle.apf_objects.specs.Rules.{Text}
use Rattle.apf_objects.specs.Schemas.{SchemaSaid, max_precedence}
use Rattle.apf_objects.specs.declared.schema.Distinguisher.{Distinguisher}
use Rattle.apf_changes.specs.Amounts.{judged}
use Rattle.apf_changes.specs.Lists.{is_schema, replaced}
use Rattle.apf_changes.specs.Schemas.{absent, with_precedence, with_distinguisher, schemas_with, with_schema_change, level_name, levelled, moved, placed, with_schema_level}
use Rattle.apf_changes.specs.declared.change.Amount.{Amount}
use Rattle.apf_changes.specs.declared.change.SchemaChange.{SchemaChange}
use Rattle.apf_changes.specs.declared.change.SchemaChange.TheVariants.{Precedence, By}
use Rattle.apf_changes.specs.declared.fault.ChangeFault.{ChangeFault}

other_first : (a b c : Bool) → (a || (b || c)) ≡ (b || (a || c))
other_first true true c = refl
other_first true false c = refl
other_first false true c = refl
other_first false false c = refl

regrouped : (a b c : Bool) → (b || (a || c)) ≡ ((a || b) || c)
regrouped true true c = refl
regrouped true false c = refl
regrouped false true c = refl
regrouped false false c = refl

pub or_true : (a : Bool) → (a || true) ≡ true
or_true true = refl
or_true false = refl

or_false : (a : Bool) → (a || false) ≡ a
or_false true = refl
or_false false = refl

insert_by : (p : SchemaSaid → Bool) (schema other : SchemaSaid) (others : List SchemaSaid) (b : Bool)
    → list_any p (insert schema others) ≡ (p schema || list_any p others)
    → list_any p (if b then schema ∷ other ∷ others else other ∷ insert schema others) ≡ (p schema || (p other || list_any p others))
insert_by p schema other others true later = refl
insert_by p schema other others false later = ap (λ b. p other || b) later ∙ other_first (p other) (p schema) (list_any p others)

-- one of the schemas passes, or the one that is put among them does
pub any_inserted : (p : SchemaSaid → Bool) (schema : SchemaSaid) (others : List SchemaSaid) → list_any p (insert schema others) ≡ (p schema || list_any p others)
any_inserted p schema [] = refl
any_inserted p schema (other ∷ others) = insert_by p schema other others (comes_before schema other) (any_inserted p schema others)

any_of_all : (p : SchemaSaid → Bool) (placed schemas : List SchemaSaid) → list_any p (insert_all placed schemas) ≡ (list_any p schemas || list_any p placed)
any_of_all p placed [] = refl
any_of_all p placed (schema ∷ schemas) =
    any_of_all p (insert schema placed) schemas ∙ ap (λ b. list_any p schemas || b) (any_inserted p schema placed)
    ∙ regrouped (p schema) (list_any p schemas) (list_any p placed)

any_in_order : (p : SchemaSaid → Bool) (schemas : List SchemaSaid) → list_any p (in_order schemas) ≡ list_any p schemas
any_in_order p schemas = any_of_all p [] schemas ∙ or_false (list_any p schemas)

replaced_by : (test p : SchemaSaid → Bool) (new old x : SchemaSaid) (xs : List SchemaSaid) (b : Bool) → p new ≡ p old
    → (find test xs ≡ Some old → list_any p (replaced test new xs) ≡ list_any p xs)
    → (if b then Some x else find test xs) ≡ Some old
    → list_any p (if b then new ∷ xs else x ∷ replaced test new xs) ≡ (p x || list_any p xs)
replaced_by test p new old x xs true alike later found =
    let same : x ≡ old = cc in
    ap (λ b. b || list_any p xs) (alike ∙ ap p (sym same))
replaced_by test p new old x xs false alike later found = ap (λ b. p x || b) (later found)

-- the first that passes a test is replaced by one that is alike
pub any_replaced : (test p : SchemaSaid → Bool) (new old : SchemaSaid) (xs : List SchemaSaid) → p new ≡ p old → find test xs ≡ Some old
    → list_any p (replaced test new xs) ≡ list_any p xs
any_replaced test p new old [] alike found = cc
any_replaced test p new old (x ∷ xs) alike found = replaced_by test p new old x xs (test x) alike (any_replaced test p new old xs alike) found

-- ---- the precedence

precedence_by : (name n : Text) (schemas after : List SchemaSaid) (schema : SchemaSaid) (value : Result ℕ ChangeFault) → find (is_schema name) schemas ≡ Some schema
    → (value >>= (λ precedence. Ok (in_order (replaced (is_schema name) (record schema { precedence = precedence }) schemas)))) ≡ Ok after
    → has_schema after n ≡ has_schema schemas n
precedence_by name n schemas after schema (Err fault) found is = cc
precedence_by name n schemas after schema (Ok precedence) found is =
    let same : after ≡ in_order (replaced (is_schema name) (record schema { precedence = precedence }) schemas) = cc in
    ap (λ (all : List SchemaSaid). has_schema all n) same
    ∙ any_in_order (is_schema n) (replaced (is_schema name) (record schema { precedence = precedence }) schemas)
    ∙ any_replaced (is_schema name) (is_schema n) (record schema { precedence = precedence }) schema schemas refl found

found_by : (amount : Amount) (name n : Text) (dangling schemas after : List SchemaSaid) (found : Option SchemaSaid) → find (is_schema name) schemas ≡ found
    → (or_fault (absent name dangling) found >>= (λ schema. judged amount (Some schema.precedence) (record { low = 1; high = max_precedence })
    >>= (λ precedence. Ok (in_order (replaced (is_schema name) (record schema { precedence = precedence }) schemas))))) ≡ Ok after
    → has_schema after n ≡ has_schema schemas n
found_by amount name n dangling schemas after None found is = cc
found_by amount name n dangling schemas after (Some schema) found is =
    precedence_by name n schemas after schema (judged amount (Some schema.precedence) (record { low = 1; high = max_precedence })) found is

precedence_kept : (amount : Amount) (name n : Text) (dangling schemas after : List SchemaSaid) → with_precedence amount name dangling schemas ≡ Ok after
    → has_schema after n ≡ has_schema schemas n
unfolding with_precedence
precedence_kept amount name n dangling schemas after is = found_by amount name n dangling schemas after (find (is_schema name) schemas) refl is

-- ---- the distinguisher

distinguisher_by : (distinguisher : Distinguisher) (name n : Text) (dangling schemas after : List SchemaSaid) (found : Option SchemaSaid) → find (is_schema name) schemas ≡ found
    → (or_fault (absent name dangling) found >>= (λ schema. Ok (replaced (is_schema name) (record schema { distinguisher = distinguisher }) schemas))) ≡ Ok after
    → has_schema after n ≡ has_schema schemas n
distinguisher_by distinguisher name n dangling schemas after None found is = cc
distinguisher_by distinguisher name n dangling schemas after (Some schema) found is =
    let same : after ≡ replaced (is_schema name) (record schema { distinguisher = distinguisher }) schemas = cc in
    ap (λ (all : List SchemaSaid). has_schema all n) same
    ∙ any_replaced (is_schema name) (is_schema n) (record schema { distinguisher = distinguisher }) schema schemas refl found

distinguisher_kept : (distinguisher : Distinguisher) (name n : Text) (dangling schemas after : List SchemaSaid)
    → with_distinguisher distinguisher name dangling schemas ≡ Ok after → has_schema after n ≡ has_schema schemas n
unfolding with_distinguisher
distinguisher_kept distinguisher name n dangling schemas after is =
    distinguisher_by distinguisher name n dangling schemas after (find (is_schema name) schemas) refl is

-- ---- the cluster

schemas_kept : (change : SchemaChange) (name n : Text) (dangling schemas after : List SchemaSaid) → schemas_with change name dangling schemas ≡ Ok after
    → has_schema after n ≡ has_schema schemas n
schemas_kept (Precedence amount) name n dangling schemas after is = precedence_kept amount name n dangling schemas after is
schemas_kept (By distinguisher) name n dangling schemas after is = distinguisher_kept distinguisher name n dangling schemas after is

cluster_by : (cluster after : ClusterSaid) (n : Text) (schemas : Result (List SchemaSaid) ChangeFault)
    → ((all : List SchemaSaid) → schemas ≡ Ok all → has_schema all n ≡ has_schema cluster.schemas n)
    → (schemas >>= (λ all. Ok (record cluster { schemas = all }))) ≡ Ok after → has_schema after.schemas n ≡ has_schema cluster.schemas n
cluster_by cluster after n (Err fault) kept is = cc
cluster_by cluster after n (Ok all) kept is =
    let same : record cluster { schemas = all } ≡ after = cc in
    ap (λ (one : ClusterSaid). has_schema one.schemas n) (sym same) ∙ kept all refl

-- a change of a schema
pub change_kept : (change : SchemaChange) (name n : Text) (cluster after : ClusterSaid) → with_schema_change change name cluster ≡ Ok after
    → has_schema after.schemas n ≡ has_schema cluster.schemas n
unfolding with_schema_change
change_kept change name n cluster after is =
    cluster_by cluster after n (schemas_with change name cluster.dangling cluster.schemas)
    (λ all some. schemas_kept change name n cluster.dangling cluster.schemas all some) is

moved_by : (name n : Text) (cluster after : ClusterSaid) (schema : SchemaSaid) (level : Result Text ChangeFault) → find (is_schema name) cluster.schemas ≡ Some schema
    → (level >>= (λ known. Ok (moved name known schema cluster))) ≡ Ok after → has_schema cluster.schemas n ≡ true → has_schema after.schemas n ≡ true
moved_by name n cluster after schema (Err fault) found is was = cc
moved_by name n cluster after schema (Ok level) found is was =
    let same : moved name level schema cluster ≡ after = cc in
    ap (λ (one : ClusterSaid). has_schema one.schemas n) (sym same)
    ∙ any_replaced (is_schema name) (is_schema n) (record schema { level = level }) schema cluster.schemas refl found ∙ was

placed_by : (name n : Text) (cluster after : ClusterSaid) (schema : SchemaSaid) (level : Result Text ChangeFault)
    → (level >>= (λ known. Ok (placed name known schema cluster))) ≡ Ok after → has_schema cluster.schemas n ≡ true → has_schema after.schemas n ≡ true
placed_by name n cluster after schema (Err fault) is was = cc
placed_by name n cluster after schema (Ok level) is was =
    let same : placed name level schema cluster ≡ after = cc in
    ap (λ (one : ClusterSaid). has_schema one.schemas n) (sym same)
    ∙ any_inserted (is_schema n) (record schema { level = level }) cluster.schemas ∙ ap (λ b. is_schema n (record schema { level = level }) || b) was
    ∙ or_true (is_schema n (record schema { level = level }))

levelled_by : (name level n : Text) (cluster after : ClusterSaid) (there dangling : Option SchemaSaid) → find (is_schema name) cluster.schemas ≡ there
    → levelled name level cluster there dangling ≡ Ok after → has_schema cluster.schemas n ≡ true → has_schema after.schemas n ≡ true
levelled_by name level n cluster after (Some schema) dangling found is was = moved_by name n cluster after schema (level_name level cluster.levels) found is was
levelled_by name level n cluster after None (Some schema) found is was = placed_by name n cluster after schema (level_name level cluster.levels) is was
levelled_by name level n cluster after None None found is was = cc

-- another level of a schema
pub level_kept : (name level n : Text) (cluster after : ClusterSaid) → with_schema_level name level cluster ≡ Ok after
    → has_schema cluster.schemas n ≡ true → has_schema after.schemas n ≡ true
unfolding with_schema_level
level_kept name level n cluster after is was =
    levelled_by name level n cluster after (find (is_schema name) cluster.schemas) (find (is_schema name) cluster.dangling) refl is was
