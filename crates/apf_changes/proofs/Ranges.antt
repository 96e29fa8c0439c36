-- The settings of levels stay in their ranges.
use Rattle.std.proofs.Common.{◌≡◌, ℕ, ◌≤◌, List, [], ◌∷◌, Bool, true, false, Option, Some, None, Result, Ok, Err, refl, ap, subst, arith}
use Rattle.std.specs.Prelude.{◌&&◌, nat_le, if◌then◌else◌, find, option_map, IfSome}
use Rattle.std.proofs.lemmas.Bool.{leb-true}
use Rattle.apf_files.specs.FirstFault.{◌>>=◌, or_fault}
use Rattle.apf_objects.specs.Cluster.{ClusterSaid}
use Rattle.apf_objects.specs.Levels.{LevelSaid, AreSettingsInRange, IsQueuingInRange}
use Rattle.apf_objects.specs.Rules.{Text}
use Rattle.apf_objects.specs.Schemas.{SchemaSaid}
use Rattle.apf_objects.specs.declared.level.LevelSettings.{LevelSettings}
use Rattle.apf_objects.specs.declared.level.Queuing.{Queuing}
use Rattle.apf_matching.specs.Limits.{max_seats}
use Rattle.apf_changes.specs.Amounts.{judged, within, amount_from}
use Rattle.apf_changes.specs.Applying.{with_change, with_server_seats, with_level_seats, with_user_rate, with_schema_rate, with_level, with_schema, with_level_of, with_rate, with_cluster, with_levels, assigned, AreInRange}
use Rattle.apf_changes.specs.Changes.{ChangeSaid, server_seats, level_seats, user_rate, schema_rate, of_level, of_schema, schema_level}
use Rattle.apf_changes.specs.Levels.{bounds_of, standing, with_number, with_queue_number, queuing_by, settings_with, levels_with}
use Rattle.apf_changes.specs.Lists.{is_level, is_schema, replaced}
use Rattle.apf_changes.specs.Scenarios.{ScenarioSaid, nominal_of}
use Rattle.apf_changes.specs.Schemas.{the_schema, schemas_with, with_schema_change, level_name, moved, placed, levelled, with_schema_level}
use Rattle.apf_changes.specs.declared.change.Amount.{Amount}
use Rattle.apf_changes.specs.declared.change.LevelChange.{LevelChange}
use Rattle.apf_changes.specs.declared.change.LevelChange.TheVariants.{Number, BorrowsAll, Response as Responds}
use Rattle.apf_changes.specs.declared.change.LevelNumber.{LevelNumber}
use Rattle.apf_changes.specs.declared.change.LevelNumber.TheVariants.{Shares, Lendable, Borrowing, Queues, Hand, Length}
use Rattle.apf_changes.specs.declared.change.Response.{Response}
use Rattle.apf_changes.specs.declared.change.Response.TheVariants.{Queue, Reject}
use Rattle.apf_changes.specs.declared.change.SchemaChange.{SchemaChange}
use Rattle.apf_changes.specs.declared.fault.Bounds.{Bounds}
use Rattle.apf_changes.specs.declared.fault.ChangeFault.{ChangeFault}
use Rattle.apf_changes.specs.declared.fault.ChangeFault.TheVariants.{NoNumber, NoLevel, Exempt, OutOfBounds}
use Rattle.apf_changes.proofs.Ordered.{ok_by}

-- ---- a number that is judged

both_by : (bounds : Bounds) (m n : ℕ) (low high : Bool) → nat_le bounds.low m ≡ low → nat_le m bounds.high ≡ high
    → (if low && high then Ok m else Err (OutOfBounds m bounds)) ≡ Ok n → (bounds.low ≤ n) × (n ≤ bounds.high)
both_by bounds m n true true l h is =
    let same : m ≡ n = cc in
    (subst (λ (k : ℕ). bounds.low ≤ k) same (leb-true bounds.low m l), subst (λ (k : ℕ). k ≤ bounds.high) same (leb-true m bounds.high h))
both_by bounds m n true false l h is = cc
both_by bounds m n false high l h is = cc

fits_by : (bounds : Bounds) (n : ℕ) (meant : Option ℕ) → (or_fault NoNumber meant >>= within bounds) ≡ Ok n → (bounds.low ≤ n) × (n ≤ bounds.high)
fits_by bounds n (Some m) is = both_by bounds m n (nat_le bounds.low m) (nat_le m bounds.high) refl refl is
fits_by bounds n None is = cc

fits : (amount : Amount) (stands : Option ℕ) (bounds : Bounds) (n : ℕ) → judged amount stands bounds ≡ Ok n → (bounds.low ≤ n) × (n ≤ bounds.high)
unfolding judged
fits amount stands bounds n is = fits_by bounds n (amount_from amount stands) is

-- ---- the settings of a level

queues_in_range : (n : ℕ) (queuing : Option Queuing) → (1 ≤ n) × (n ≤ (bounds_of Queues).high) → IfSome queuing IsQueuingInRange
    → IfSome (option_map (with_queue_number Queues n) queuing) IsQueuingInRange
queues_in_range n (Some q) fit h = (fit.0, fit.1, h.2, h.3, h.4, h.5)
queues_in_range n None fit h = tt

hand_in_range : (n : ℕ) (queuing : Option Queuing) → (1 ≤ n) × (n ≤ (bounds_of Hand).high) → IfSome queuing IsQueuingInRange
    → IfSome (option_map (with_queue_number Hand n) queuing) IsQueuingInRange
hand_in_range n (Some q) fit h = (h.0, h.1, fit.0, fit.1, h.4, h.5)
hand_in_range n None fit h = tt

length_in_range : (n : ℕ) (queuing : Option Queuing) → (1 ≤ n) × (n ≤ (bounds_of Length).high) → IfSome queuing IsQueuingInRange
    → IfSome (option_map (with_queue_number Length n) queuing) IsQueuingInRange
length_in_range n (Some q) fit h = (h.0, h.1, h.2, h.3, fit.0, fit.1)
length_in_range n None fit h = tt

number_in_range : (number : LevelNumber) (n : ℕ) (settings : LevelSettings) → AreSettingsInRange settings → ((bounds_of number).low ≤ n) × (n ≤ (bounds_of number).high)
    → AreSettingsInRange (with_number number n settings)
number_in_range Shares n settings are fit = record { shares = fit.1; lendable = are.lendable; borrowing = are.borrowing; queuing = are.queuing }
number_in_range Lendable n settings are fit = record { shares = are.shares; lendable = fit.1; borrowing = are.borrowing; queuing = are.queuing }
number_in_range Borrowing n settings are fit = record { shares = are.shares; lendable = are.lendable; borrowing = fit.1; queuing = are.queuing }
number_in_range Queues n settings are fit =
    record { shares = are.shares; lendable = are.lendable; borrowing = are.borrowing; queuing = queues_in_range n settings.queuing fit are.queuing }
number_in_range Hand n settings are fit =
    record { shares = are.shares; lendable = are.lendable; borrowing = are.borrowing; queuing = hand_in_range n settings.queuing fit are.queuing }
number_in_range Length n settings are fit =
    record { shares = are.shares; lendable = are.lendable; borrowing = are.borrowing; queuing = length_in_range n settings.queuing fit are.queuing }

queuing_in_range : (response : Response) (queuing : Option Queuing) → IfSome queuing IsQueuingInRange → IfSome (queuing_by response queuing) IsQueuingInRange
queuing_in_range Queue (Some q) h = h
queuing_in_range Queue None h = (omega arith, omega arith, omega arith, omega arith, omega arith, omega arith)
queuing_in_range Reject queuing h = tt

limited_by : (settings changed after : LevelSettings) (exempt : Bool) → AreSettingsInRange changed
    → (if exempt then Err Exempt else Ok changed) ≡ Ok after → AreSettingsInRange after
limited_by settings changed after true are is = cc
limited_by settings changed after false are is = let same : changed ≡ after = cc in subst (λ (s : LevelSettings). AreSettingsInRange s) same are

answer_is : (changed after : LevelSettings) (answer : Result LevelSettings ChangeFault) → answer ≡ Ok changed → answer ≡ Ok after → AreSettingsInRange changed
    → AreSettingsInRange after
answer_is changed after answer one other are = let same : changed ≡ after = cc in subst (λ (s : LevelSettings). AreSettingsInRange s) same are

settings_in_range : (change : LevelChange) (settings after : LevelSettings) → settings_with change settings ≡ Ok after → AreSettingsInRange settings → AreSettingsInRange after
unfolding settings_with
settings_in_range (Number number amount) settings after is are =
    ok_by (standing number settings) (λ stands. judged amount stands (bounds_of number) >>= (λ value. Ok (with_number number value settings))) after (AreSettingsInRange after)
    (λ stands there so. ok_by (judged amount stands (bounds_of number)) (λ value. Ok (with_number number value settings)) after (AreSettingsInRange after)
    (λ value judged_so made. answer_is (with_number number value settings) after (Ok (with_number number value settings)) refl made
    (number_in_range number value settings are (fits amount stands (bounds_of number) value judged_so))) so) is
settings_in_range BorrowsAll settings after is are =
    limited_by settings (record settings { borrowing_percent = None }) after settings.is_exempt
    (record { shares = are.shares; lendable = are.lendable; borrowing = tt; queuing = are.queuing }) is
settings_in_range (Responds response) settings after is are =
    limited_by settings (record settings { queuing = queuing_by response settings.queuing }) after settings.is_exempt
    (record { shares = are.shares; lendable = are.lendable; borrowing = are.borrowing; queuing = queuing_in_range response settings.queuing are.queuing }) is

-- ---- the levels

found_by : (l level : LevelSaid) (found : Option LevelSaid) (b : Bool) → AreSettingsInRange l.settings → (found ≡ Some level → AreSettingsInRange level.settings)
    → (if b then Some l else found) ≡ Some level → AreSettingsInRange level.settings
found_by l level found true is later at = let same : l ≡ level = cc in subst (λ (x : LevelSaid). AreSettingsInRange x.settings) same is
found_by l level found false is later at = later at

level_found : (test : LevelSaid → Bool) (levels : List LevelSaid) (level : LevelSaid) → find test levels ≡ Some level → AreInRange levels → AreSettingsInRange level.settings
level_found test [] level found are = cc
level_found test (l ∷ ls) level found are = found_by l level (find test ls) (test l) are.0 (λ at. level_found test ls level at are.1) found

replaced_by : (new l : LevelSaid) (ls changed : List LevelSaid) (b : Bool) → AreSettingsInRange new.settings → AreSettingsInRange l.settings → AreInRange ls → AreInRange changed
    → AreInRange (if b then new ∷ ls else l ∷ changed)
replaced_by new l ls changed true is first are later = (is, are)
replaced_by new l ls changed false is first are later = (first, later)

replaced_in_range : (test : LevelSaid → Bool) (new : LevelSaid) (levels : List LevelSaid) → AreSettingsInRange new.settings → AreInRange levels → AreInRange (replaced test new levels)
replaced_in_range test new [] is are = tt
replaced_in_range test new (l ∷ ls) is are = replaced_by new l ls (replaced test new ls) (test l) is are.0 are.1 (replaced_in_range test new ls is are.1)

level_is : (fault : ChangeFault) (found : Option LevelSaid) (level : LevelSaid) → or_fault fault found ≡ Ok level → found ≡ Some level
level_is fault (Some x) level is = let same : x ≡ level = cc in ap Some same
level_is fault None level is = cc

levels_is : (changed after : List LevelSaid) (answer : Result (List LevelSaid) ChangeFault) → answer ≡ Ok changed → answer ≡ Ok after → AreInRange changed → AreInRange after
levels_is changed after answer one other are = let same : changed ≡ after = cc in subst (λ (s : List LevelSaid). AreInRange s) same are

levels_in_range : (change : LevelChange) (name : Text) (levels after : List LevelSaid) → levels_with change name levels ≡ Ok after → AreInRange levels → AreInRange after
unfolding levels_with
levels_in_range change name levels after is are =
    ok_by (or_fault NoLevel (find (is_level name) levels))
    (λ level. settings_with change level.settings >>= (λ settings. Ok (replaced (is_level name) (record { name = level.name; settings = settings }) levels)))
    after (AreInRange after)
    (λ level found so. ok_by (settings_with change level.settings) (λ settings. Ok (replaced (is_level name) (record { name = level.name; settings = settings }) levels))
    after (AreInRange after)
    (λ settings changed made. levels_is (replaced (is_level name) (record { name = level.name; settings = settings }) levels) after
    (Ok (replaced (is_level name) (record { name = level.name; settings = settings }) levels)) refl made
    (replaced_in_range (is_level name) (record { name = level.name; settings = settings }) levels
    (settings_in_range change level.settings settings changed (level_found (is_level name) levels level (level_is NoLevel (find (is_level name) levels) level found) are)) are)) so) is

-- ---- the scenario

abbrev IsKept : ScenarioSaid → ScenarioSaid → Type 0
IsKept before after = AreInRange before.cluster.levels → AreInRange after.cluster.levels

scenario_is : (scenario after : ScenarioSaid) (answer : Result ScenarioSaid ChangeFault) → answer ≡ Ok scenario → answer ≡ Ok after
    → AreInRange scenario.cluster.levels → AreInRange after.cluster.levels
scenario_is scenario after answer one other are =
    let same : scenario ≡ after = cc in subst (λ (s : ScenarioSaid). AreInRange s.cluster.levels) same are

cluster_is : (cluster after : ClusterSaid) (answer : Result ClusterSaid ChangeFault) → answer ≡ Ok cluster → answer ≡ Ok after → AreInRange cluster.levels → AreInRange after.levels
cluster_is cluster after answer one other are = let same : cluster ≡ after = cc in subst (λ (c : ClusterSaid). AreInRange c.levels) same are

change_in_range : (change : SchemaChange) (name : Text) (cluster after : ClusterSaid) → with_schema_change change name cluster ≡ Ok after → AreInRange cluster.levels → AreInRange after.levels
unfolding with_schema_change
change_in_range change name cluster after is are =
    ok_by (schemas_with change name cluster.dangling cluster.schemas) (λ schemas. Ok (record cluster { schemas = schemas })) after (AreInRange after.levels)
    (λ schemas changed made. cluster_is (record cluster { schemas = schemas }) after (Ok (record cluster { schemas = schemas })) refl made are) is

levelled_in_range : (name level : Text) (cluster after : ClusterSaid) (there dangling : Option SchemaSaid) → levelled name level cluster there dangling ≡ Ok after
    → AreInRange cluster.levels → AreInRange after.levels
levelled_in_range name level cluster after (Some schema) dangling is are =
    ok_by (level_name level cluster.levels) (λ known. Ok (moved name known schema cluster)) after (AreInRange after.levels)
    (λ known named made. cluster_is (moved name known schema cluster) after (Ok (moved name known schema cluster)) refl made are) is
levelled_in_range name level cluster after None (Some schema) is are =
    ok_by (level_name level cluster.levels) (λ known. Ok (placed name known schema cluster)) after (AreInRange after.levels)
    (λ known named made. cluster_is (placed name known schema cluster) after (Ok (placed name known schema cluster)) refl made are) is
levelled_in_range name level cluster after None None is are = cc

level_in_range : (name level : Text) (cluster after : ClusterSaid) → with_schema_level name level cluster ≡ Ok after → AreInRange cluster.levels → AreInRange after.levels
unfolding with_schema_level
level_in_range name level cluster after is are =
    levelled_in_range name level cluster after (find (is_schema name) cluster.schemas) (find (is_schema name) cluster.dangling) is are

server_in_range : (amount : Amount) (before after : ScenarioSaid) → with_server_seats amount before ≡ Ok after → IsKept before after
unfolding with_server_seats
server_in_range amount before after is are =
    ok_by (judged amount (Some before.seats) (record { low = 1; high = max_seats })) (λ seats. Ok (record before { seats = seats })) after (AreInRange after.cluster.levels)
    (λ seats fit made. scenario_is (record before { seats = seats }) after (Ok (record before { seats = seats })) refl made are) is

seats_in_range : (name : Text) (amount : Amount) (before after : ScenarioSaid) → with_level_seats name amount before ≡ Ok after → IsKept before after
unfolding with_level_seats
seats_in_range name amount before after is are =
    ok_by (or_fault NoLevel (find (is_level name) before.cluster.levels))
    (λ level. judged amount (Some (nominal_of before level)) (record { low = 0; high = max_seats }) >>= (λ seats. Ok (record before { nominal = assigned name seats before.nominal })))
    after (AreInRange after.cluster.levels)
    (λ level found so. ok_by (judged amount (Some (nominal_of before level)) (record { low = 0; high = max_seats }))
    (λ seats. Ok (record before { nominal = assigned name seats before.nominal })) after (AreInRange after.cluster.levels)
    (λ seats fit made. scenario_is (record before { nominal = assigned name seats before.nominal }) after (Ok (record before { nominal = assigned name seats before.nominal })) refl made are) so) is

user_in_range : (name : Text) (amount : Amount) (before after : ScenarioSaid) → with_user_rate name amount before ≡ Ok after → IsKept before after
unfolding with_user_rate
user_in_range name amount before after is are =
    ok_by (with_rate name amount before.user_rates) (λ rates. Ok (record before { user_rates = rates })) after (AreInRange after.cluster.levels)
    (λ rates fit made. scenario_is (record before { user_rates = rates }) after (Ok (record before { user_rates = rates })) refl made are) is

rate_in_range : (name : Text) (amount : Amount) (before after : ScenarioSaid) → with_schema_rate name amount before ≡ Ok after → IsKept before after
unfolding with_schema_rate
rate_in_range name amount before after is are =
    ok_by (the_schema name before.cluster.dangling before.cluster.schemas)
    (λ schema. with_rate name amount before.schema_rates >>= (λ rates. Ok (record before { schema_rates = rates }))) after (AreInRange after.cluster.levels)
    (λ schema found so. ok_by (with_rate name amount before.schema_rates) (λ rates. Ok (record before { schema_rates = rates })) after (AreInRange after.cluster.levels)
    (λ rates fit made. scenario_is (record before { schema_rates = rates }) after (Ok (record before { schema_rates = rates })) refl made are) so) is

levels_of_range : (name : Text) (change : LevelChange) (before after : ScenarioSaid) → with_level name change before ≡ Ok after → IsKept before after
unfolding with_level
levels_of_range name change before after is are =
    ok_by (levels_with change name before.cluster.levels) (λ levels. Ok (with_cluster before (with_levels before.cluster levels))) after (AreInRange after.cluster.levels)
    (λ levels changed made. scenario_is (with_cluster before (with_levels before.cluster levels)) after (Ok (with_cluster before (with_levels before.cluster levels))) refl made
    (levels_in_range change name before.cluster.levels levels changed are)) is

schema_in_range : (name : Text) (change : SchemaChange) (before after : ScenarioSaid) → with_schema name change before ≡ Ok after → IsKept before after
unfolding with_schema
schema_in_range name change before after is are =
    ok_by (with_schema_change change name before.cluster) (λ cluster. Ok (with_cluster before cluster)) after (AreInRange after.cluster.levels)
    (λ cluster changed made. scenario_is (with_cluster before cluster) after (Ok (with_cluster before cluster)) refl made
    (change_in_range change name before.cluster cluster changed are)) is

level_of_in_range : (name level : Text) (before after : ScenarioSaid) → with_level_of name level before ≡ Ok after → IsKept before after
unfolding with_level_of
level_of_in_range name level before after is are =
    ok_by (with_schema_level name level before.cluster) (λ cluster. Ok (with_cluster before cluster)) after (AreInRange after.cluster.levels)
    (λ cluster changed made. scenario_is (with_cluster before cluster) after (Ok (with_cluster before cluster)) refl made
    (level_in_range name level before.cluster cluster changed are)) is

-- a change keeps the settings of levels in their ranges
pub in_range_after : (change : ChangeSaid) (before after : ScenarioSaid) → with_change change before ≡ Ok after → IsKept before after
in_range_after (server_seats amount) before after is = server_in_range amount before after is
in_range_after (level_seats name amount) before after is = seats_in_range name amount before after is
in_range_after (user_rate name amount) before after is = user_in_range name amount before after is
in_range_after (schema_rate name amount) before after is = rate_in_range name amount before after is
in_range_after (of_level name change) before after is = levels_of_range name change before after is
in_range_after (of_schema name change) before after is = schema_in_range name change before after is
in_range_after (schema_level name level) before after is = level_of_in_range name level before after is
