-- The schemas with a change.
use Rattle.std.proofs.Common.{◌≡◌, ◌∙◌, ℕ, List, Some, None, Result, Ok, Err, get_or, set, map, refl, sym, ap, ap₂}
use Rattle.std.specs.Prelude.{remove, String, string_bytes}
use Rattle.std.specs.declared.alloc.Global.{Global}
use Rattle.apf_objects.specs.Cluster.{ClusterSaid, cluster_view}
use Rattle.apf_objects.specs.Levels.{level_view}
use Rattle.apf_objects.specs.Order.{insert, in_order}
use Rattle.apf_objects.specs.Rules.{Text}
use Rattle.apf_objects.specs.Schemas.{SchemaSaid, schema_view, max_precedence}
use Rattle.apf_objects.specs.declared.cluster.Cluster.{Cluster}
use Rattle.apf_objects.specs.declared.level.Level.{Level}
use Rattle.apf_objects.specs.declared.schema.Distinguisher.{Distinguisher}
use Rattle.apf_objects.specs.declared.schema.Schema.{Schema}
use Rattle.apf_matching.specs.First.{place_from}
use Rattle.apf_changes.specs.Amounts.{judged}
use Rattle.apf_changes.specs.Lists.{is_level, is_schema}
use Rattle.apf_changes.specs.Schemas.{absent, with_precedence, with_distinguisher, with_schema_level, level_name}
use Rattle.apf_changes.specs.declared.change.Amount.{Amount}
use Rattle.apf_changes.specs.declared.fault.ChangeFault.{ChangeFault}
use Rattle.apf_changes.specs.declared.fault.ChangeFault.TheVariants.{NoLevel, NoSchema, Dangling}
use Rattle.apf_changes.proofs.Firsts.{first_at, nothing}

-- the schema of this name stands at this place, or there is none
abbrev pub IsAt : Text → List Schema → ℕ → Type 0
IsAt name schemas i = place_from (is_schema name) 0 (map schema_view schemas) ≡ Some i

abbrev pub IsNowhere : Text → List Schema → Type 0
IsNowhere name schemas = place_from (is_schema name) 0 (map schema_view schemas) ≡ None

-- ---- why one is refused

pub dangles : (name : Text) (dangling : List Schema) (i : ℕ) → IsAt name dangling i → absent name (map schema_view dangling) ≡ Dangling
dangles name dangling i at = rw (first_at (is_schema name) schema_view dangling i at).found refl

pub is_none : (name : Text) (dangling : List Schema) → IsNowhere name dangling → absent name (map schema_view dangling) ≡ NoSchema
is_none name dangling nowhere = rw (nothing (is_schema name) 0 (map schema_view dangling) nowhere) refl

pub no_level : (name : Text) (levels : List Level) → place_from (is_level name) 0 (map level_view levels) ≡ None
    → level_name name (map level_view levels) ≡ Err NoLevel
no_level name levels nowhere = rw (nothing (is_level name) 0 (map level_view levels) nowhere) refl

pub a_level : (name : Text) (levels : List Level) (i : ℕ) → place_from (is_level name) 0 (map level_view levels) ≡ Some i
    → level_name name (map level_view levels) ≡ Ok name
a_level name levels i at = rw (first_at (is_level name) level_view levels i at).found refl

-- ---- the precedence

pub precedence_gone : (amount : Amount) (name : Text) (dangling : List SchemaSaid) (schemas : List Schema) → IsNowhere name schemas
    → with_precedence amount name dangling (map schema_view schemas) ≡ Err (absent name dangling)
unfolding with_precedence
precedence_gone amount name dangling schemas nowhere = rw (nothing (is_schema name) 0 (map schema_view schemas) nowhere) refl

pub precedence_refused : (amount : Amount) (name : Text) (dangling : List SchemaSaid) (schemas : List Schema) (i : ℕ) (d : Schema) (fault : ChangeFault)
    → IsAt name schemas i → judged amount (Some (get_or schemas i d).precedence) (record { low = 1; high = max_precedence }) ≡ Err fault
    → with_precedence amount name dangling (map schema_view schemas) ≡ Err fault
unfolding with_precedence
precedence_refused amount name dangling schemas i d fault at refused =
    let first = first_at (is_schema name) schema_view schemas i at in
    rw (first.found, rw (first.stands d) at refused) refl

pub precedence_changed : (amount : Amount) (name : Text) (dangling ordered : List SchemaSaid) (schemas : List Schema) (i : ℕ) (d e : Schema) (n : ℕ)
    → IsAt name schemas i → judged amount (Some (get_or schemas i d).precedence) (record { low = 1; high = max_precedence }) ≡ Ok n
    → ordered ≡ in_order (map schema_view (set schemas i (record (get_or schemas i e) { precedence = n })))
    → with_precedence amount name dangling (map schema_view schemas) ≡ Ok ordered
unfolding with_precedence
precedence_changed amount name dangling ordered schemas i d e n at changed is =
    let first = first_at (is_schema name) schema_view schemas i at in
    let put = first.put (record first.item { precedence = n }) in
    rw (first.found, rw (first.stands d) at changed) (ap Ok (ap in_order put ∙ sym (rw (first.stands e) at is)))

-- ---- the distinguisher

pub distinguisher_gone : (distinguisher : Distinguisher) (name : Text) (dangling : List SchemaSaid) (schemas : List Schema) → IsNowhere name schemas
    → with_distinguisher distinguisher name dangling (map schema_view schemas) ≡ Err (absent name dangling)
unfolding with_distinguisher
distinguisher_gone distinguisher name dangling schemas nowhere = rw (nothing (is_schema name) 0 (map schema_view schemas) nowhere) refl

pub distinguisher_changed : (distinguisher : Distinguisher) (name : Text) (dangling : List SchemaSaid) (schemas : List Schema) (i : ℕ) (e : Schema)
    → IsAt name schemas i
    → with_distinguisher distinguisher name dangling (map schema_view schemas)
    ≡ Ok (map schema_view (set schemas i (record (get_or schemas i e) { distinguisher = distinguisher })))
unfolding with_distinguisher
distinguisher_changed distinguisher name dangling schemas i e at =
    let first = first_at (is_schema name) schema_view schemas i at in
    rw (first.found, first.stands e) (ap Ok (first.put (record first.item { distinguisher = distinguisher })))

-- ---- the level

-- the cluster with these schemas
abbrev answered : Cluster → (schemas dangling : List SchemaSaid) → Result ClusterSaid ChangeFault
answered cluster schemas dangling = Ok (record { levels = map level_view cluster.levels.items; schemas = schemas; dangling = dangling })

pub level_unknown : (name level : Text) (cluster : Cluster) (i : ℕ) (fault : ChangeFault) → IsAt name cluster.schemas.items i
    → level_name level (map level_view cluster.levels.items) ≡ Err fault → with_schema_level name level (cluster_view cluster) ≡ Err fault
unfolding with_schema_level
level_unknown name level cluster i fault at unknown =
    rw ((first_at (is_schema name) schema_view cluster.schemas.items i at).found, unknown) refl

pub level_moved : (name level : Text) (cluster : Cluster) (i : ℕ) (e : Schema) (text : String Global) → IsAt name cluster.schemas.items i
    → level_name level (map level_view cluster.levels.items) ≡ Ok (string_bytes text)
    → with_schema_level name level (cluster_view cluster)
    ≡ Ok (record {
      levels = map level_view cluster.levels.items;
      schemas = map schema_view (set cluster.schemas.items i (record (get_or cluster.schemas.items i e) { level = text }));
      dangling = map schema_view cluster.dangling.items;
    })
unfolding with_schema_level
level_moved name level cluster i e text at known =
    let first = first_at (is_schema name) schema_view cluster.schemas.items i at in
    let put = first.put (record first.item { level = text }) in
    rw (first.found, known, first.stands e)
    (ap (λ (schemas : List SchemaSaid). answered cluster schemas (map schema_view cluster.dangling.items)) put)

pub no_schema : (name level : Text) (cluster : Cluster) → IsNowhere name cluster.schemas.items → IsNowhere name cluster.dangling.items
    → with_schema_level name level (cluster_view cluster) ≡ Err NoSchema
unfolding with_schema_level
no_schema name level cluster nowhere neither =
    rw (nothing (is_schema name) 0 (map schema_view cluster.schemas.items) nowhere, nothing (is_schema name) 0 (map schema_view cluster.dangling.items) neither) refl

pub dangling_unknown : (name level : Text) (cluster : Cluster) (i : ℕ) (fault : ChangeFault) → IsNowhere name cluster.schemas.items
    → IsAt name cluster.dangling.items i → level_name level (map level_view cluster.levels.items) ≡ Err fault
    → with_schema_level name level (cluster_view cluster) ≡ Err fault
unfolding with_schema_level
dangling_unknown name level cluster i fault nowhere at unknown =
    rw (nothing (is_schema name) 0 (map schema_view cluster.schemas.items) nowhere, (first_at (is_schema name) schema_view cluster.dangling.items i at).found, unknown) refl

pub level_placed : (name level : Text) (cluster : Cluster) (i : ℕ) (d : Schema) (text : String Global) (schemas : List SchemaSaid)
    → IsNowhere name cluster.schemas.items → IsAt name cluster.dangling.items i
    → level_name level (map level_view cluster.levels.items) ≡ Ok (string_bytes text)
    → schemas ≡ insert (schema_view (record (get_or cluster.dangling.items i d) { level = text })) (map schema_view cluster.schemas.items)
    → with_schema_level name level (cluster_view cluster)
    ≡ Ok (record {
      levels = map level_view cluster.levels.items;
      schemas = schemas;
      dangling = map schema_view (remove cluster.dangling.items i);
    })
unfolding with_schema_level
level_placed name level cluster i d text schemas nowhere at known is =
    let first = first_at (is_schema name) schema_view cluster.dangling.items i at in
    let here : schemas ≡ insert (schema_view (record first.item { level = text })) (map schema_view cluster.schemas.items) = rw (first.stands d) at is in
    rw (nothing (is_schema name) 0 (map schema_view cluster.schemas.items) nowhere, first.found, known)
    (ap₂ (λ (schemas dangling : List SchemaSaid). answered cluster schemas dangling) (sym here) first.left)
