-- What was handed out came to both clusters.
use Rattle.std.proofs.Common.{◌≡◌, ◌∙◌, ◌+◌, ℕ, List, [], ◌∷◌, ◌++◌, Option, Some, None, sym, ap, subst, replicate, append_assoc}
use Rattle.std.specs.Prelude.{Bool, IfOk, IsSome, is_some, Result, Ok, Err}
use Rattle.std.specs.Option.{option_to_list}
use Rattle.std.proofs.lemmas.Grind.{replicate_next}
use Rattle.std.proofs.lemmas.List.{append-nil}
use Rattle.std.proofs.lemmas.List.Concat.{flat_map-append}
use Rattle.apf_objects.specs.Cluster.{ClusterSaid}
use Rattle.apf_changes.specs.Scenarios.{ScenarioSaid}
use Rattle.apf_audit.specs.AuditEvent.{Event}
use Rattle.apf_audit.specs.declared.choice.Choice.{Choice}
use Rattle.apf_joined_reader.specs.Reading.{Inputs, JoinedView}
use Rattle.apf_cluster.specs.Beside.{HasRunBoth, HaveBothGone, HaveRunBoth, IsNewGoing, TakesBoth, TakesMore, all_beside, come_beside, course_beside}
use Rattle.apf_cluster.specs.Requests.{level_of, start_of}
use Rattle.apf_cluster.specs.Runs.{Course, HasFed, HasRun, HaveLevels, Reaches}
use Rattle.apf_cluster.specs.declared.beside.Going.{Going}
use Rattle.apf_cluster.specs.declared.both.BothTables.{BothTables}
use Rattle.apf_cluster.specs.declared.running.ClusterTerms.{ClusterTerms}
use Rattle.apf_cluster.proofs.HandedOut.{all_fed, none_reaches, start_stays, told_fed}
use Rattle.apf_cluster.proofs.Zips.{all_append, all_then}

-- ---- the same request, so many times

pub no_times : (w : Course) (g : Going) → TakesMore w [] g g
no_times w g told r = subst (λ (l : List Event). Reaches w l g.lanes.items g.clock.periods) (sym (append-nil told)) r

pub once_more : (w : Course) (e : Event) (n : ℕ) (g mid g' : Going) → TakesMore w (replicate n e) g mid → TakesMore w (e ∷ []) mid g' → TakesMore w (replicate (n + 1) e) g g'
once_more w e n g mid g' many one told r =
    subst (λ (l : List Event). Reaches w (told ++ l) g'.lanes.items g'.clock.periods) (sym (replicate_next n e))
    (subst (λ (l : List Event). Reaches w l g'.lanes.items g'.clock.periods) (append_assoc told (replicate n e) (e ∷ [])) (one (told ++ replicate n e) (many told r)))

pub once_more_level : (c : ClusterSaid) (e : Event) (n : ℕ) → HaveLevels c (replicate n e) → HaveLevels c (e ∷ []) → HaveLevels c (replicate (n + 1) e)
once_more_level c e n many one = subst (HaveLevels c) (sym (replicate_next n e)) (all_then (λ (x : Event). IsSome (level_of c x)) (replicate n e) e many one.0)

-- ---- the whole log

-- what holds by two things that do
pub both_ok : {A E : Type 0} (r : Result A E) (P Q S : A → Type 0) → ((x : A) → P x → Q x → S x) → IfOk r P → IfOk r Q → IfOk r S
both_ok (Ok x) P Q S go p q = go x p q
both_ok (Err e) P Q S go p q = tt

-- nobody came yet
pub none_both : (choice : Choice) (w w2 : Course) (s : ScenarioSaid) (was left : Inputs) (next : Option Event) (v : JoinedView) (first second : Going) → HasFed choice was left [] next v
    → IsNewGoing w.terms w.fixed w.cluster.levels first → IsNewGoing w2.terms w2.fixed w2.cluster.levels second → w.start ≡ start_of (option_to_list next) → HaveBothGone choice w w2 s was left next v first second
none_both choice w w2 s was left next v first second fed a b start = record {
  told = [];
  fed = fed;
  reaches = subst (λ (n : ℕ). Reaches w [] first.lanes.items n) (sym a.periods) (none_reaches w first.lanes.items a.opened);
  reaches_too = subst (λ (n : ℕ). Reaches w2 [] second.lanes.items n) (sym b.periods) (none_reaches w2 second.lanes.items b.opened);
  levels = tt;
  matched = tt;
  levels_too = tt;
  start = start;
}

-- the request of one event more came to both
pub both_on : (choice : Choice) (w w2 : Course) (s : ScenarioSaid) (was mid left : Inputs) (e : Event) (next : Option Event) (v v' : JoinedView) (first first' second second' : Going)
    → ((told : List Event) → HasFed choice was mid told (Some e) v → HasFed choice was left (told ++ e ∷ []) next v') → TakesBoth w w2 s e first first' second second'
    → HaveBothGone choice w w2 s was mid (Some e) v first second → HaveBothGone choice w w2 s was left next v' first' second'
both_on choice w w2 s was mid left e next v v' first first' second second' fed t g =
    let f = come_beside s in
    let more : all_beside s (g.told ++ e ∷ []) ≡ all_beside s g.told ++ f e = flat_map-append f g.told (e ∷ []) ∙ ap (λ (l : List Event). all_beside s g.told ++ l) (append-nil (f e)) in
    record {
      told = g.told ++ e ∷ [];
      fed = fed g.told g.fed;
      reaches = t.takes g.told g.reaches;
      reaches_too = subst (λ (l : List Event). Reaches w2 l second'.lanes.items second'.clock.periods) (sym more) (t.takes_too (all_beside s g.told) g.reaches_too);
      levels = all_then (λ (x : Event). IsSome (level_of w.cluster x)) g.told e g.levels t.level.0;
      matched = all_then (λ (x : Event). IsSome x.beside) g.told e g.matched t.matched;
      levels_too = subst (HaveLevels w2.cluster) (sym more) (all_append (λ (x : Event). IsSome (level_of w2.cluster x)) (all_beside s g.told) (f e) g.levels_too t.levels_too);
      start = g.start ∙ sym (start_stays g.told e (option_to_list next));
    }

-- the whole log was read, and each lane was closed
pub ran_both : (choice : Choice) (c : ClusterSaid) (terms : ClusterTerms) (s : ScenarioSaid) (start size : ℕ) (has_lines : Bool) (was left : Inputs) (v : JoinedView) (first second : Going) (tables : BothTables) → v.reader.window.size ≡ size → is_some v.halves ≡ has_lines
    → HaveBothGone choice (record { cluster = c; terms = terms; fixed = []; start = start }) (course_beside terms s start) s was left None v first second
    → ((told : List Event) → Reaches (record { cluster = c; terms = terms; fixed = []; start = start }) told first.lanes.items first.clock.periods → HasRun (record { cluster = c; terms = terms; fixed = []; start = start }) told tables.first.items)
    → ((told : List Event) → Reaches (course_beside terms s start) told second.lanes.items second.clock.periods → HasRun (course_beside terms s start) told tables.second.items)
    → HasRunBoth choice c terms s size has_lines was left v tables
ran_both choice c terms s start size has_lines was left v first second tables same lines g closes closes_too =
    let start_is : start ≡ start_of g.told = g.start ∙ ap start_of (append-nil g.told) in
    let ran : HaveRunBoth c terms s g.told tables = record {
      levels = g.levels;
      matched = g.matched;
      levels_too = g.levels_too;
      ran = subst (λ (n : ℕ). HasRun (record { cluster = c; terms = terms; fixed = []; start = n }) g.told tables.first.items) start_is (closes g.told g.reaches);
      ran_too = subst (λ (n : ℕ). HasRun (course_beside terms s n) (all_beside s g.told) tables.second.items) start_is (closes_too (all_beside s g.told) g.reaches_too);
    } in
    record {
      joins = g.fed.joins;
      all = all_fed choice size has_lines was left g.told v same lines g.fed;
      ran = subst (λ (l : List Event). HaveRunBoth c terms s l tables) (told_fed choice was left g.told v g.fed) ran;
    }
