-- Each request is in the table of one level.
use Rattle.std.proofs.Common.{◌≡◌, ◌≢◌, ◌∙◌, ℕ, suc, ◌+◌, ◌<◌, ◌≤◌, List, [], ◌∷◌, Bool, true, false, cond, Option, Some, None, length, refl, sym, ap, ap₂, arith}
use Rattle.std.specs.Prelude.{IsSome, nat_eq, nat_le}
use Rattle.std.proofs.lemmas.Bool.{eqb-false, eqb-true, eq-eqb, ne_eqb}
use Rattle.std.proofs.lemmas.Bool.Decides.{nat_tests}
use Rattle.std.proofs.lemmas.List.{length-map}
use Rattle.std.proofs.lemmas.List.Sums.{sum_by-cons}
use Rattle.apf_words.specs.declared.decision.Decision.{Decision}
use Rattle.apf_words.specs.declared.decision.Decision.TheVariants.{Execute, QueueFull, Closed, Cancelled, ConcurrencyLimit}
use Rattle.apf_objects.specs.Cluster.{ClusterSaid}
use Rattle.apf_objects.specs.Levels.{LevelSaid}
use Rattle.apf_objects.specs.Schemas.{SchemaSaid}
use Rattle.apf_audit.specs.AuditEvent.{Event}
use Rattle.apf_matching.specs.First.{place_from}
use Rattle.apf_stream.specs.declared.ended.Ended.{Ended}
use Rattle.apf_rows.specs.Accounts.{AreSums, cancels, executes, rejects, total}
use Rattle.apf_cluster_tables.specs.declared.level_table.LevelTable.{LevelTable}
use Rattle.apf_cluster.specs.Late.{told_from}
use Rattle.apf_cluster.specs.Lending.{Adjustment}
use Rattle.apf_cluster.specs.Requests.{Said, is_place, level_by, level_of, of_level, request_of, said, schema_at}
use Rattle.apf_cluster.specs.Runs.{Course, HasRun, HaveLevels, IsLevelTable, ZipFrom}
use Rattle.apf_cluster.specs.Sums.{AreCountedOnce, of_levels}

-- ---- each request is of one level

-- how many of these are of the levels from this place on
abbrev counts : ClusterSaid → ℕ → List LevelSaid → List Event → ℕ
counts c i [] told = 0
counts c i (l ∷ levels) told = length (of_level c i told) + counts c (suc i) levels told

none_counts : (c : ClusterSaid) (i : ℕ) (levels : List LevelSaid) → counts c i levels [] ≡ 0
none_counts c i [] = refl
none_counts c i (l ∷ levels) =
    let none : length (of_level c i []) ≡ 0 = refl in
    let rest = none_counts c (suc i) levels in
    omega (arith, none, rest)

here : (c : ClusterSaid) (i : ℕ) (e : Event) (told : List Event) → level_of c e ≡ Some i → length (of_level c i (e ∷ told)) ≡ suc (length (of_level c i told))
here c i e told is = ap (λ (b : Bool). length (cond b (e ∷ of_level c i told) (of_level c i told))) (ap (λ (o : Option ℕ). is_place o i) is ∙ eq-eqb i i refl)

elsewhere : (c : ClusterSaid) (g i : ℕ) (e : Event) (told : List Event) → level_of c e ≡ Some g → i ≢ g → length (of_level c i (e ∷ told)) ≡ length (of_level c i told)
elsewhere c g i e told is differs = ap (λ (b : Bool). length (cond b (e ∷ of_level c i told) (of_level c i told))) (ap (λ (o : Option ℕ). is_place o i) is ∙ ne_eqb g i (λ same. differs (sym same)))

-- it is of a level before these
behind_it : (c : ClusterSaid) (g i : ℕ) (levels : List LevelSaid) (e : Event) (told : List Event) → level_of c e ≡ Some g → g < i → counts c i levels (e ∷ told) ≡ counts c i levels told
behind_it c g i [] e told is low = refl
behind_it c g i (l ∷ levels) e told is low =
    ap₂ (λ (m n : ℕ). m + n) (elsewhere c g i e told is (λ same. omega (arith, same, low))) (behind_it c g (suc i) levels e told is (omega (arith, low)))

-- it is of one of these
among_them : (c : ClusterSaid) (g i : ℕ) (levels : List LevelSaid) (e : Event) (told : List Event) → level_of c e ≡ Some g → i ≤ g → g < i + length levels → counts c i levels (e ∷ told) ≡ suc (counts c i levels told)
among_them c g i [] e told is low high = absurd (omega (arith, low, high))
among_them c g i (l ∷ levels) e told is low high = go (nat_eq i g) refl (λ later. among_them c g (suc i) levels e told is later (omega (arith, high)))
  where
    go : (b : Bool) → nat_eq i g ≡ b → (suc i ≤ g → counts c (suc i) levels (e ∷ told) ≡ suc (counts c (suc i) levels told)) → counts c i (l ∷ levels) (e ∷ told) ≡ suc (counts c i (l ∷ levels) told)
    go true same more =
        let at : g ≡ i = sym (eqb-true i g same) in
        let first = here c i e told (is ∙ ap Some at) in
        let rest = behind_it c g (suc i) levels e told is (omega (arith, at)) in
        omega (arith, first, rest)
    go false same more =
        let differs : i ≢ g = eqb-false i g same in
        let first = elsewhere c g i e told is differs in
        let rest = more (omega (arith, low, differs)) in
        omega (arith, first, rest)

-- the place of what is found is one of the list's
placed_in : {A : Type 0} (test : A → Bool) (i : ℕ) (xs : List A) (g : ℕ) → place_from test i xs ≡ Some g → (i ≤ g) × (g < i + length xs)
placed_in test i [] g is = absurd cc
placed_in test i (x ∷ xs) g is = go (test x) refl (placed_in test (suc i) xs g) is
  where
    go : (b : Bool) → test x ≡ b → (place_from test (suc i) xs ≡ Some g → (suc i ≤ g) × (g < suc i + length xs)) → cond b (Some i) (place_from test (suc i) xs) ≡ Some g → (i ≤ g) × (g < i + length (x ∷ xs))
    go true so later same = let at : i ≡ g = cc in (omega (arith, at), omega (arith, at))
    go false so later same = let found = later same in let low = found.0 in let high = found.1 in (omega (arith, low), omega (arith, high))

level_in : (c : ClusterSaid) (schema : Option SchemaSaid) (g : ℕ) → level_by c.levels schema ≡ Some g → g < length c.levels
level_in c None g is = absurd cc
level_in c (Some schema) g is = let found = placed_in _ 0 c.levels g is in let high = found.1 in omega (arith, high)

all_once : (c : ClusterSaid) (told : List Event) → HaveLevels c told → counts c 0 c.levels told ≡ length told
all_once c [] h = none_counts c 0 c.levels
all_once c (e ∷ told) h = go (level_of c e) refl h.0 (all_once c told h.1)
  where
    go : (o : Option ℕ) → level_of c e ≡ o → IsSome o → counts c 0 c.levels told ≡ length told → counts c 0 c.levels (e ∷ told) ≡ length (e ∷ told)
    go None is some rest = absurd cc
    go (Some g) is some rest =
        let high = level_in c (schema_at c.schemas e.schema) g is in
        let more = among_them c g 0 c.levels e told is (omega arith) (omega (arith, high)) in
        omega (arith, more, rest)

-- ---- each table is of its level

-- from the first one on all are counted
from_first : (told : List Ended) → length (told_from 0 told) ≡ length told
from_first [] = refl
from_first (e ∷ told) =
    let all : nat_le 0 e.hold.asked.times.arrives_at ≡ true = grind (arith, nat_tests) in
    ap (λ (b : Bool). length (cond b (e ∷ told_from 0 told) (told_from 0 told))) all ∙ ap suc (from_first told)

-- each has one fate
fate_of : (d : Decision) → executes d + rejects d + cancels d ≡ 1
fate_of Execute = refl
fate_of QueueFull = refl
fate_of Closed = refl
fate_of Cancelled = refl
fate_of ConcurrencyLimit = refl

fates_of : (told : List Ended) → total (λ e. executes e.decision) told + total (λ e. rejects e.decision) told + total (λ e. cancels e.decision) told ≡ length told
fates_of [] = refl
fates_of (e ∷ told) = let one = fate_of e.decision in let rest = fates_of told in omega (arith, one, rest)

table_of : (w : Course) (told : List Event) (past : List Adjustment) (i : ℕ) (l : LevelSaid) (t : LevelTable) → w.terms.since ≡ 0 → IsLevelTable w told past i l t
    → (t.table.all.sums.requests ≡ length (of_level w.cluster i told)) × (t.table.all.sums.executed + t.table.all.sums.rejected + t.table.all.sums.cancelled ≡ t.table.all.sums.requests)
table_of w told past i l t from h =
    let sums : AreSums (told_from w.terms.since h.out) t.table.all.sums = h.table.all.sums in
    let requests = sums.requests in
    let some : length (told_from w.terms.since h.out) ≡ length h.out = ap (λ (n : ℕ). length (told_from n h.out)) from ∙ from_first h.out in
    let ended : length h.out ≡ length h.came = sym h.ran.are.all.sums.requests ∙ (h.is_over.each ∙ h.ran.number) in
    let asked : length h.came ≡ length (of_level w.cluster i told) =
    sym (length-map h.came said) ∙ (ap (λ (s : List Said). length s) h.are ∙ length-map (of_level w.cluster i told) (request_of w.cluster w.start)) in
    let fates = fates_of (told_from w.terms.since h.out) in
    let executed = sums.executed in
    let rejected = sums.rejected in
    let cancelled = sums.cancelled in
    (omega (arith, requests, some, ended, asked), omega (arith, requests, executed, rejected, cancelled, fates))

all_tables : (w : Course) (told : List Event) (past : List Adjustment) (i : ℕ) (levels : List LevelSaid) (tables : List LevelTable) → w.terms.since ≡ 0 → ZipFrom (IsLevelTable w told past) i levels tables
    → (of_levels (λ s. s.requests) tables ≡ counts w.cluster i levels told) × (of_levels (λ s. s.executed) tables + of_levels (λ s. s.rejected) tables + of_levels (λ s. s.cancelled) tables ≡ counts w.cluster i levels told)
all_tables w told past i [] [] from h = (refl, refl)
all_tables w told past i [] (t ∷ tables) from h = absurd h
all_tables w told past i (l ∷ levels) [] from h = absurd h
all_tables w told past i (l ∷ levels) (t ∷ tables) from h =
    let one = table_of w told past i l t from h.0 in
    let requests = one.0 in
    let fates = one.1 in
    let rest = all_tables w told past (suc i) levels tables from h.1 in
    let more = rest.0 in
    let more_fates = rest.1 in
    let first : of_levels (λ s. s.requests) (t ∷ tables) ≡ t.table.all.sums.requests + of_levels (λ s. s.requests) tables = sum_by-cons _ t tables in
    let executed : of_levels (λ s. s.executed) (t ∷ tables) ≡ t.table.all.sums.executed + of_levels (λ s. s.executed) tables = sum_by-cons _ t tables in
    let rejected : of_levels (λ s. s.rejected) (t ∷ tables) ≡ t.table.all.sums.rejected + of_levels (λ s. s.rejected) tables = sum_by-cons _ t tables in
    let cancelled : of_levels (λ s. s.cancelled) (t ∷ tables) ≡ t.table.all.sums.cancelled + of_levels (λ s. s.cancelled) tables = sum_by-cons _ t tables in
    (omega (arith, requests, more, first), omega (arith, requests, fates, more_fates, executed, rejected, cancelled))

pub counted_once : (w : Course) (told : List Event) (tables : List LevelTable) → w.terms.since ≡ 0 → HaveLevels w.cluster told → HasRun w told tables → AreCountedOnce told tables
counted_once w told tables from levels ran =
    let each = all_tables w told ran.0 0 w.cluster.levels tables from ran.2 in
    let all = all_once w.cluster told levels in
    record { requests = each.0 ∙ all; fates = each.1 ∙ all }
