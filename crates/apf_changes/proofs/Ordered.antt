-- The order of schemas stays.
use Rattle.std.proofs.Common.{◌≡◌, ◌∙◌, ◌⊎◌, ℕ, ◌<◌, List, [], ◌∷◌, ◌++◌, append_assoc, append-nil, Bool, true, false, Option, Some, None, Result, Ok, Err, refl, sym, ap, subst, inl, inr, arith}
use Rattle.std.specs.Prelude.{⊤, ◌||◌, ◌&&◌, ◌==◌, nat_lt, if◌then◌else◌, find}
use Rattle.std.specs.List.{list_any}
use Rattle.std.specs.Ordering.{nat_cmp, is_lt, ordering_reverse}
use Rattle.std.specs.Cmp.Lexicographic.{slice_cmp}
use Rattle.std.specs.declared.cmp.Ordering.{Ordering}
use Rattle.std.specs.declared.cmp.Ordering.TheVariants.{Less, Equal, Greater}
use Rattle.std.proofs.lemmas.Bool.Decides.{Decides-eqb, Decides-ltb}
use Rattle.std.proofs.lemmas.Cmp.{nat_list_cmp_total}
use Rattle.apf_files.specs.FirstFault.{◌>>=◌, or_fault}
use Rattle.apf_objects.specs.Cluster.{ClusterSaid}
use Rattle.apf_objects.specs.Order.{comes_before, insert, insert_all, in_order}
use Rattle.apf_objects.specs.Rules.{Text}
use Rattle.apf_objects.specs.Schemas.{SchemaSaid, max_precedence}
use Rattle.apf_objects.specs.declared.schema.Distinguisher.{Distinguisher}
use Rattle.apf_matching.specs.Limits.{max_seats}
use Rattle.apf_changes.specs.Amounts.{judged}
use Rattle.apf_changes.specs.Applying.{with_change, with_server_seats, with_level_seats, with_user_rate, with_schema_rate, with_level, with_schema, with_level_of, with_rate, with_cluster, with_levels, assigned, AreInOrder}
use Rattle.apf_changes.specs.Changes.{ChangeSaid, server_seats, level_seats, user_rate, schema_rate, of_level, of_schema, schema_level}
use Rattle.apf_changes.specs.Levels.{levels_with}
use Rattle.apf_changes.specs.Lists.{is_level, is_schema, replaced}
use Rattle.apf_changes.specs.Scenarios.{ScenarioSaid, nominal_of}
use Rattle.apf_changes.specs.Schemas.{absent, the_schema, with_precedence, with_distinguisher, schemas_with, with_schema_change, level_name, moved, placed, levelled, with_schema_level}
use Rattle.apf_changes.specs.declared.change.Amount.{Amount}
use Rattle.apf_changes.specs.declared.change.LevelChange.{LevelChange}
use Rattle.apf_changes.specs.declared.change.SchemaChange.{SchemaChange}
use Rattle.apf_changes.specs.declared.change.SchemaChange.TheVariants.{Precedence, By}
use Rattle.apf_changes.specs.declared.fault.ChangeFault.{ChangeFault}
use Rattle.apf_changes.specs.declared.fault.ChangeFault.TheVariants.{NoLevel}
use Rattle.apf_changes.proofs.Cuts.{differs}
use Rattle.apf_changes.proofs.Kept.{any_inserted, any_replaced, or_true}
use Rattle.apf_changes.proofs.Written.{neither}

-- ---- what comes before what

abbrev IsBefore : SchemaSaid → SchemaSaid → Type 0
IsBefore one other = (one.precedence < other.precedence) ⊎ ((one.precedence ≡ other.precedence) × (slice_cmp nat_cmp one.name other.name ≡ Less))

told_by : (p q : ℕ) (less same : Bool) (o : Ordering) → nat_lt p q ≡ less → (p == q) ≡ same → (less || (same && is_lt o)) ≡ true
    → (p < q) ⊎ ((p ≡ q) × (o ≡ Less))
told_by p q true same o l s h = inl ((Decides-ltb p q).0 l)
told_by p q false true Less l s h = inr ((Decides-eqb p q).0 s, refl)
told_by p q false true Equal l s h = cc
told_by p q false true Greater l s h = cc
told_by p q false false o l s h = cc

told : (one other : SchemaSaid) → comes_before one other ≡ true → IsBefore one other
told one other h =
    told_by one.precedence other.precedence (nat_lt one.precedence other.precedence) (one.precedence == other.precedence) (slice_cmp nat_cmp one.name other.name) refl refl h

tell : (one other : SchemaSaid) → IsBefore one other → comes_before one other ≡ true
tell one other (inl less) = rw ((Decides-ltb one.precedence other.precedence).1 less) refl
tell one other (inr (same, first)) =
    rw ((Decides-eqb one.precedence other.precedence).1 same, first) (or_true (nat_lt one.precedence other.precedence))

trans_by : (x y z : SchemaSaid) → IsBefore x y → IsBefore y z → IsBefore x z
trans_by x y z (inl a) (inl b) = inl (omega (arith, a, b))
trans_by x y z (inl a) (inr b) = inl (omega (arith, a, b.0))
trans_by x y z (inr a) (inl b) = inl (omega (arith, a.0, b))
trans_by x y z (inr a) (inr b) = inr (a.0 ∙ b.0, nat_list_cmp_total.trans x.name y.name z.name a.1 b.1)

before_trans : (x y z : SchemaSaid) → comes_before x y ≡ true → comes_before y z ≡ true → comes_before x z ≡ true
before_trans x y z one other = tell x z (trans_by x y z (told x y one) (told y z other))

clash : (x y : SchemaSaid) → IsBefore x y → IsBefore y x → ⊥
clash x y (inl a) (inl b) = omega (arith, a, b)
clash x y (inl a) (inr b) = omega (arith, a, b.0)
clash x y (inr a) (inl b) = omega (arith, a.0, b)
clash x y (inr a) (inr b) =
    let e : Less ≡ Greater = sym a.1 ∙ nat_list_cmp_total.antisymm x.name y.name ∙ ap ordering_reverse b.1 in cc

before_asym : (x y : SchemaSaid) → comes_before x y ≡ true → comes_before y x ≡ false
before_asym x y one = differs (comes_before y x) (λ back. clash x y (told x y one) (told y x back))

-- ---- lists in their order

abbrev NoneBefore : SchemaSaid → List SchemaSaid → Type 0
NoneBefore x ys = list_any (λ y. comes_before y x) ys ≡ false

abbrev AreSorted : List SchemaSaid → Type 0
AreSorted [] = ⊤
AreSorted (x ∷ xs) = NoneBefore x xs × AreSorted xs

clear : (b : Bool) → b ≡ true → b ≡ false → ⊥
clear b is other = cc

none_after : (x y : SchemaSaid) (zs : List SchemaSaid) → comes_before x y ≡ true → NoneBefore y zs → NoneBefore x zs
none_after x y [] first none = refl
none_after x y (z ∷ zs) first none =
    let parts = neither (comes_before z y) (list_any (λ u. comes_before u y) zs) none in
    let not_z : comes_before z x ≡ false = differs (comes_before z x) (λ h. clear (comes_before z y) (before_trans z x y h first) parts.0) in
    rw (not_z, none_after x y zs first parts.1) refl

sorted_by : (x y : SchemaSaid) (ys : List SchemaSaid) (b : Bool) → comes_before x y ≡ b → NoneBefore y ys → AreSorted ys → AreSorted (insert x ys)
    → AreSorted (if b then x ∷ y ∷ ys else y ∷ insert x ys)
sorted_by x y ys true first none sorted later = (rw (before_asym x y first, none_after x y ys first none) refl, (none, sorted))
sorted_by x y ys false other none sorted later = (any_inserted (λ z. comes_before z y) x ys ∙ rw (other, none) refl, later)

insert_sorted : (x : SchemaSaid) (ys : List SchemaSaid) → AreSorted ys → AreSorted (insert x ys)
insert_sorted x [] sorted = (refl, tt)
insert_sorted x (y ∷ ys) sorted = sorted_by x y ys (comes_before x y) refl sorted.0 sorted.1 (insert_sorted x ys sorted.1)

all_sorted : (placed xs : List SchemaSaid) → AreSorted placed → AreSorted (insert_all placed xs)
all_sorted placed [] sorted = sorted
all_sorted placed (x ∷ xs) sorted = all_sorted (insert x placed) xs (insert_sorted x placed sorted)

among : (q : SchemaSaid → Bool) (ps : List SchemaSaid) (y : SchemaSaid) (ys : List SchemaSaid) → list_any q (ps ++ y ∷ ys) ≡ false → q y ≡ false
among q [] y ys none = (neither (q y) (list_any q ys) none).0
among q (p ∷ ps) y ys none = among q ps y ys (neither (q p) (list_any q (ps ++ y ∷ ys)) none).1

last_inserted : (placed : List SchemaSaid) (y : SchemaSaid) (ys : List SchemaSaid) → AreSorted (placed ++ y ∷ ys) → insert y placed ≡ placed ++ y ∷ []
last_inserted [] y ys sorted = refl
last_inserted (p ∷ ps) y ys sorted =
    rw (among (λ z. comes_before z p) ps y ys sorted.0) (ap (λ (zs : List SchemaSaid). p ∷ zs) (last_inserted ps y ys sorted.1))

fixed : (placed ys : List SchemaSaid) → AreSorted (placed ++ ys) → insert_all placed ys ≡ placed ++ ys
fixed placed [] sorted = sym (append-nil placed)
fixed placed (y ∷ ys) sorted =
    let grouped : (placed ++ y ∷ []) ++ ys ≡ placed ++ y ∷ ys = append_assoc placed (y ∷ []) ys in
    ap (λ (zs : List SchemaSaid). insert_all zs ys) (last_inserted placed y ys sorted)
    ∙ fixed (placed ++ y ∷ []) ys (subst (λ (zs : List SchemaSaid). AreSorted zs) (sym grouped) sorted) ∙ grouped

sorted_from : (xs : List SchemaSaid) → AreInOrder xs → AreSorted xs
sorted_from xs are = subst (λ (zs : List SchemaSaid). AreSorted zs) are (all_sorted [] xs tt)

ordered_from : (xs : List SchemaSaid) → AreSorted xs → AreInOrder xs
ordered_from xs sorted = fixed [] xs sorted

-- ---- one schema in the place of another

any_alike : (p q : SchemaSaid → Bool) (xs : List SchemaSaid) → ((x : SchemaSaid) → p x ≡ q x) → list_any p xs ≡ list_any q xs
any_alike p q [] alike = refl
any_alike p q (x ∷ xs) alike = rw (alike x, any_alike p q xs alike) refl

-- both have the same place among others
record AreAlike (new old : SchemaSaid) : Type 0 where
  front : (z : SchemaSaid) → comes_before new z ≡ comes_before old z
  back : (z : SchemaSaid) → comes_before z new ≡ comes_before z old

in_place_by : (test : SchemaSaid → Bool) (new old x : SchemaSaid) (xs : List SchemaSaid) (b : Bool) → AreAlike new old → NoneBefore x xs → AreSorted xs
    → (find test xs ≡ Some old → AreSorted (replaced test new xs)) → (if b then Some x else find test xs) ≡ Some old
    → AreSorted (if b then new ∷ xs else x ∷ replaced test new xs)
in_place_by test new old x xs true alike none sorted later found =
    let same : x ≡ old = cc in
    let before : NoneBefore old xs = subst (λ (s : SchemaSaid). NoneBefore s xs) same none in
    (any_alike (λ z. comes_before z new) (λ z. comes_before z old) xs alike.back ∙ before, sorted)
in_place_by test new old x xs false alike none sorted later found =
    (any_replaced test (λ z. comes_before z x) new old xs (alike.front x) found ∙ none, later found)

in_place : (test : SchemaSaid → Bool) (new old : SchemaSaid) (xs : List SchemaSaid) → AreAlike new old → find test xs ≡ Some old → AreSorted xs
    → AreSorted (replaced test new xs)
in_place test new old [] alike found sorted = tt
in_place test new old (x ∷ xs) alike found sorted =
    in_place_by test new old x xs (test x) alike sorted.0 sorted.1 (λ at. in_place test new old xs alike at sorted.1) found

-- ---- changes

-- what went well before went well
pub ok_by : {A B F : Type 0} (r : Result A F) (next : A → Result B F) (after : B) (P : Type 0) → ((x : A) → r ≡ Ok x → next x ≡ Ok after → P)
    → (r >>= next) ≡ Ok after → P
ok_by (Ok x) next after P goes is = goes x refl is
ok_by (Err fault) next after P goes is = cc

found_is : (fault : ChangeFault) (found : Option SchemaSaid) (schema : SchemaSaid) → or_fault fault found ≡ Ok schema → found ≡ Some schema
found_is fault (Some x) schema is = let same : x ≡ schema = cc in ap Some same
found_is fault None schema is = cc

sorted_order : (schemas : List SchemaSaid) → AreInOrder (in_order schemas)
sorted_order schemas = ordered_from (in_order schemas) (all_sorted [] schemas tt)

abbrev Answered : List SchemaSaid → Result (List SchemaSaid) ChangeFault → Type 0
Answered after answer = answer ≡ Ok after

put_in_order : (changed after : List SchemaSaid) → Answered after (Ok (in_order changed)) → AreInOrder after
put_in_order changed after made = let same : in_order changed ≡ after = cc in subst (λ (all : List SchemaSaid). AreInOrder all) same (sorted_order changed)

precedence_ordered : (amount : Amount) (name : Text) (dangling schemas after : List SchemaSaid) → with_precedence amount name dangling schemas ≡ Ok after → AreInOrder after
unfolding with_precedence
precedence_ordered amount name dangling schemas after is =
    ok_by (the_schema name dangling schemas)
    (λ schema. judged amount (Some schema.precedence) (record { low = 1; high = max_precedence })
    >>= (λ precedence. Ok (in_order (replaced (is_schema name) (record schema { precedence = precedence }) schemas))))
    after (AreInOrder after)
    (λ schema found so. ok_by (judged amount (Some schema.precedence) (record { low = 1; high = max_precedence }))
    (λ precedence. Ok (in_order (replaced (is_schema name) (record schema { precedence = precedence }) schemas)))
    after (AreInOrder after)
    (λ precedence fits made. put_in_order (replaced (is_schema name) (record schema { precedence = precedence }) schemas) after made) so) is

put_in_place : (name : Text) (new old : SchemaSaid) (schemas after : List SchemaSaid) → AreAlike new old → find (is_schema name) schemas ≡ Some old
    → AreInOrder schemas → Answered after (Ok (replaced (is_schema name) new schemas)) → AreInOrder after
put_in_place name new old schemas after alike found are made =
    let same : replaced (is_schema name) new schemas ≡ after = cc in
    subst (λ (all : List SchemaSaid). AreInOrder all) same (ordered_from (replaced (is_schema name) new schemas) (in_place (is_schema name) new old schemas alike found (sorted_from schemas are)))

distinguisher_ordered : (distinguisher : Distinguisher) (name : Text) (dangling schemas after : List SchemaSaid)
    → with_distinguisher distinguisher name dangling schemas ≡ Ok after → AreInOrder schemas → AreInOrder after
unfolding with_distinguisher
distinguisher_ordered distinguisher name dangling schemas after is are =
    ok_by (the_schema name dangling schemas) (λ schema. Ok (replaced (is_schema name) (record schema { distinguisher = distinguisher }) schemas))
    after (AreInOrder after)
    (λ schema found made. put_in_place name (record schema { distinguisher = distinguisher }) schema schemas after (record { front = λ z. refl; back = λ z. refl })
    (found_is (absent name dangling) (find (is_schema name) schemas) schema found) are made) is

schemas_ordered : (change : SchemaChange) (name : Text) (dangling schemas after : List SchemaSaid) → schemas_with change name dangling schemas ≡ Ok after
    → AreInOrder schemas → AreInOrder after
schemas_ordered (Precedence amount) name dangling schemas after is are = precedence_ordered amount name dangling schemas after is
schemas_ordered (By distinguisher) name dangling schemas after is are = distinguisher_ordered distinguisher name dangling schemas after is are

-- the cluster that is answered has these schemas
of_cluster : (cluster after : ClusterSaid) (F : Type 0) (answer : Result ClusterSaid F) → answer ≡ Ok cluster → answer ≡ Ok after → AreInOrder cluster.schemas → AreInOrder after.schemas
of_cluster cluster after F answer one other are =
    let same : cluster ≡ after = cc in subst (λ (c : ClusterSaid). AreInOrder c.schemas) same are

change_ordered : (change : SchemaChange) (name : Text) (cluster after : ClusterSaid) → with_schema_change change name cluster ≡ Ok after
    → AreInOrder cluster.schemas → AreInOrder after.schemas
unfolding with_schema_change
change_ordered change name cluster after is are =
    ok_by (schemas_with change name cluster.dangling cluster.schemas) (λ schemas. Ok (record cluster { schemas = schemas })) after (AreInOrder after.schemas)
    (λ schemas changed made. of_cluster (record cluster { schemas = schemas }) after ChangeFault (Ok (record cluster { schemas = schemas })) refl made
    (schemas_ordered change name cluster.dangling cluster.schemas schemas changed are)) is

levelled_ordered : (name level : Text) (cluster after : ClusterSaid) (there dangling : Option SchemaSaid) → find (is_schema name) cluster.schemas ≡ there
    → levelled name level cluster there dangling ≡ Ok after → AreInOrder cluster.schemas → AreInOrder after.schemas
levelled_ordered name level cluster after (Some schema) dangling found is are =
    ok_by (level_name level cluster.levels) (λ known. Ok (moved name known schema cluster)) after (AreInOrder after.schemas)
    (λ known named made. of_cluster (moved name known schema cluster) after ChangeFault (Ok (moved name known schema cluster)) refl made
    (put_in_place name (record schema { level = known }) schema cluster.schemas (replaced (is_schema name) (record schema { level = known }) cluster.schemas)
    (record { front = λ z. refl; back = λ z. refl }) found are refl)) is
levelled_ordered name level cluster after None (Some schema) found is are =
    ok_by (level_name level cluster.levels) (λ known. Ok (placed name known schema cluster)) after (AreInOrder after.schemas)
    (λ known named made. of_cluster (placed name known schema cluster) after ChangeFault (Ok (placed name known schema cluster)) refl made
    (ordered_from (insert (record schema { level = known }) cluster.schemas) (insert_sorted (record schema { level = known }) cluster.schemas (sorted_from cluster.schemas are)))) is
levelled_ordered name level cluster after None None found is are = cc

level_ordered : (name level : Text) (cluster after : ClusterSaid) → with_schema_level name level cluster ≡ Ok after
    → AreInOrder cluster.schemas → AreInOrder after.schemas
unfolding with_schema_level
level_ordered name level cluster after is are =
    levelled_ordered name level cluster after (find (is_schema name) cluster.schemas) (find (is_schema name) cluster.dangling) refl is are

-- ---- the scenario

abbrev IsKept : ScenarioSaid → ScenarioSaid → Type 0
IsKept before after = AreInOrder before.cluster.schemas → AreInOrder after.cluster.schemas

of_scenario : (scenario after : ScenarioSaid) (F : Type 0) (answer : Result ScenarioSaid F) → answer ≡ Ok scenario → answer ≡ Ok after
    → AreInOrder scenario.cluster.schemas → AreInOrder after.cluster.schemas
of_scenario scenario after F answer one other are =
    let same : scenario ≡ after = cc in subst (λ (s : ScenarioSaid). AreInOrder s.cluster.schemas) same are

server_ordered : (amount : Amount) (before after : ScenarioSaid) → with_server_seats amount before ≡ Ok after → IsKept before after
unfolding with_server_seats
server_ordered amount before after is are =
    ok_by (judged amount (Some before.seats) (record { low = 1; high = max_seats })) (λ seats. Ok (record before { seats = seats })) after (AreInOrder after.cluster.schemas)
    (λ seats fits made. of_scenario (record before { seats = seats }) after ChangeFault (Ok (record before { seats = seats })) refl made are) is

seats_ordered : (name : Text) (amount : Amount) (before after : ScenarioSaid) → with_level_seats name amount before ≡ Ok after → IsKept before after
unfolding with_level_seats
seats_ordered name amount before after is are =
    ok_by (or_fault NoLevel (find (is_level name) before.cluster.levels))
    (λ level. judged amount (Some (nominal_of before level)) (record { low = 0; high = max_seats }) >>= (λ seats. Ok (record before { nominal = assigned name seats before.nominal })))
    after (AreInOrder after.cluster.schemas)
    (λ level found so. ok_by (judged amount (Some (nominal_of before level)) (record { low = 0; high = max_seats }))
    (λ seats. Ok (record before { nominal = assigned name seats before.nominal })) after (AreInOrder after.cluster.schemas)
    (λ seats fits made. of_scenario (record before { nominal = assigned name seats before.nominal }) after ChangeFault (Ok (record before { nominal = assigned name seats before.nominal })) refl made are) so) is

user_ordered : (name : Text) (amount : Amount) (before after : ScenarioSaid) → with_user_rate name amount before ≡ Ok after → IsKept before after
unfolding with_user_rate
user_ordered name amount before after is are =
    ok_by (with_rate name amount before.user_rates) (λ rates. Ok (record before { user_rates = rates })) after (AreInOrder after.cluster.schemas)
    (λ rates fits made. of_scenario (record before { user_rates = rates }) after ChangeFault (Ok (record before { user_rates = rates })) refl made are) is

rate_ordered : (name : Text) (amount : Amount) (before after : ScenarioSaid) → with_schema_rate name amount before ≡ Ok after → IsKept before after
unfolding with_schema_rate
rate_ordered name amount before after is are =
    ok_by (the_schema name before.cluster.dangling before.cluster.schemas)
    (λ schema. with_rate name amount before.schema_rates >>= (λ rates. Ok (record before { schema_rates = rates }))) after (AreInOrder after.cluster.schemas)
    (λ schema found so. ok_by (with_rate name amount before.schema_rates) (λ rates. Ok (record before { schema_rates = rates })) after (AreInOrder after.cluster.schemas)
    (λ rates fits made. of_scenario (record before { schema_rates = rates }) after ChangeFault (Ok (record before { schema_rates = rates })) refl made are) so) is

levels_ordered : (name : Text) (change : LevelChange) (before after : ScenarioSaid) → with_level name change before ≡ Ok after → IsKept before after
unfolding with_level
levels_ordered name change before after is are =
    ok_by (levels_with change name before.cluster.levels) (λ levels. Ok (with_cluster before (with_levels before.cluster levels))) after (AreInOrder after.cluster.schemas)
    (λ levels changed made. of_scenario (with_cluster before (with_levels before.cluster levels)) after ChangeFault (Ok (with_cluster before (with_levels before.cluster levels))) refl made are) is

schema_ordered : (name : Text) (change : SchemaChange) (before after : ScenarioSaid) → with_schema name change before ≡ Ok after → IsKept before after
unfolding with_schema
schema_ordered name change before after is are =
    ok_by (with_schema_change change name before.cluster) (λ cluster. Ok (with_cluster before cluster)) after (AreInOrder after.cluster.schemas)
    (λ cluster changed made. of_scenario (with_cluster before cluster) after ChangeFault (Ok (with_cluster before cluster)) refl made
    (change_ordered change name before.cluster cluster changed are)) is

level_of_ordered : (name level : Text) (before after : ScenarioSaid) → with_level_of name level before ≡ Ok after → IsKept before after
unfolding with_level_of
level_of_ordered name level before after is are =
    ok_by (with_schema_level name level before.cluster) (λ cluster. Ok (with_cluster before cluster)) after (AreInOrder after.cluster.schemas)
    (λ cluster changed made. of_scenario (with_cluster before cluster) after ChangeFault (Ok (with_cluster before cluster)) refl made
    (level_ordered name level before.cluster cluster changed are)) is

-- a change keeps the schemas in their order
pub ordered_after : (change : ChangeSaid) (before after : ScenarioSaid) → with_change change before ≡ Ok after → IsKept before after
ordered_after (server_seats amount) before after is = server_ordered amount before after is
ordered_after (level_seats name amount) before after is = seats_ordered name amount before after is
ordered_after (user_rate name amount) before after is = user_ordered name amount before after is
ordered_after (schema_rate name amount) before after is = rate_ordered name amount before after is
ordered_after (of_level name change) before after is = levels_ordered name change before after is
ordered_after (of_schema name change) before after is = schema_ordered name change before after is
ordered_after (schema_level name level) before after is = level_of_ordered name level before after is
