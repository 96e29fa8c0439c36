-- What was handed out, and what came of it.
use Rattle.std.proofs.Common.{◌≡◌, ◌≤◌, ◌*◌, ℕ, suc, List, [], ◌∷◌, ◌++◌, length, map, Option, Some, None, Ok, refl, sym, ap, ◌∙◌, subst, arith}
use Rattle.std.specs.Prelude.{Bool, IsSome, is_some, option_map}
use Rattle.std.specs.List.{AllZip}
use Rattle.std.specs.Option.{option_to_list}
use Rattle.std.proofs.KnownBytes.{Consumes-trans}
use Rattle.std.proofs.lemmas.List.{append-nil, length-map, map_push}
use Rattle.std.proofs.lemmas.Slice.Zip.{AllZip-long}
use Rattle.apf_objects.specs.Cluster.{ClusterSaid}
use Rattle.apf_objects.specs.Levels.{LevelSaid, level_view}
use Rattle.apf_objects.specs.declared.level.Level.{Level}
use Rattle.apf_matching.specs.Limits.{sum_of_shares}
use Rattle.apf_audit.specs.AuditEvent.{Event, event}
use Rattle.apf_audit.specs.declared.choice.Choice.{Choice}
use Rattle.apf_audit.specs.declared.event.Taken.{Taken}
use Rattle.apf_audit_reader.specs.Reading as log
use Rattle.apf_joined_reader.specs.Joins.{Join, all_joined, events_of, joined_of}
use Rattle.apf_joined_reader.specs.Reading.{Answers, AnswersMore, AreAll, Gave, Inputs, IsAlike, JoinedView}
use Rattle.apf_changes.specs.Scenarios.{AssignedSaid}
use Rattle.apf_cluster_tables.specs.declared.level_table.LevelTable.{LevelTable}
use Rattle.apf_cluster.specs.Requests.{level_of, start_of}
use Rattle.apf_cluster.specs.Lending.{period}
use Rattle.apf_cluster.specs.Runs.{AreInTime, AreLived, AreOpened, Course, HasCome, HasFed, HasRun, HasRunLog, HaveGone, HaveLevels, IsAlive, IsClosed, IsLevelTable, IsOpenedLane, Reaches, all_of}
use Rattle.apf_cluster.specs.declared.lanes.LevelLane.{LevelLane}
use Rattle.apf_cluster.specs.declared.running.ClusterTerms.{ClusterTerms}
use Rattle.apf_cluster.proofs.Coming.{closed, opened}
use Rattle.apf_cluster.proofs.Zips.{all_of_zip, all_then, from_zip, then_zip}

-- the first was handed out, or nothing is there
pub first_fed : (choice : Choice) (was left : Inputs) (next : Option Taken) (v : JoinedView) → (log_more line_more : List ℕ) × Gave was left log_more line_more × Answers choice log_more line_more [] left (Ok next) v
    → HasFed choice was left [] (option_map event next) v
first_fed choice was left None v a = record { log_bytes = a.0; line_bytes = a.1; given = a.2; joins = []; are = refl; read = a.3.0; all = λ is. (a.3.1, a.3.2) }
first_fed choice was left (Some x) v a = record {
  log_bytes = a.0;
  line_bytes = a.1;
  given = a.2;
  joins = a.3.join ∷ [];
  are = ap (λ (e : Event). e ∷ []) (sym a.3.is);
  read = a.3.read;
  all = λ is. let no : ◌≡◌ {A = Option Event} (Some (event x)) None = is in absurd cc;
}

-- the inputs gave more
gave_more : (was mid left : Inputs) (log_bytes line_bytes log_more line_more : List ℕ) → Gave was mid log_bytes line_bytes → Gave mid left log_more line_more → Gave was left (log_bytes ++ log_more) (line_bytes ++ line_more)
gave_more was mid left log_bytes line_bytes log_more line_more g h = record {
  log = Consumes-trans was.log mid.log left.log log_bytes log_more g.log h.log;
  lines = Consumes-trans was.lines mid.lines left.lines line_bytes line_more g.lines h.lines;
}

-- one more is joined
joined_more : (joins : List Join) (j : Join) (told : List Event) (e : Event) → all_joined joins ≡ told → e ≡ joined_of j → all_joined (joins ++ j ∷ []) ≡ told ++ e ∷ []
joined_more joins j told e are is = map_push joined_of joins j ∙ (ap (λ (l : List Event). l ++ joined_of j ∷ []) are ∙ ap (λ (x : Event). told ++ x ∷ []) (sym is))

fed_by : (choice : Choice) (was mid left : Inputs) (told : List Event) (e : Event) (next : Option Taken) (v v' : JoinedView) → (f : HasFed choice was mid told (Some e) v)
    → (log_more line_more : List ℕ) × Gave mid left log_more line_more × Answers choice (f.log_bytes ++ log_more) (f.line_bytes ++ line_more) f.joins left (Ok next) v' → HasFed choice was left (told ++ e ∷ []) (option_map event next) v'
fed_by choice was mid left told e None v v' f a = record {
  log_bytes = f.log_bytes ++ a.0;
  line_bytes = f.line_bytes ++ a.1;
  given = gave_more was mid left f.log_bytes f.line_bytes a.0 a.1 f.given a.2;
  joins = f.joins;
  are = f.are ∙ sym (append-nil (told ++ e ∷ []));
  read = a.3.0;
  all = λ is. (a.3.1, a.3.2);
}
fed_by choice was mid left told e (Some y) v v' f a = record {
  log_bytes = f.log_bytes ++ a.0;
  line_bytes = f.line_bytes ++ a.1;
  given = gave_more was mid left f.log_bytes f.line_bytes a.0 a.1 f.given a.2;
  joins = f.joins ++ a.3.join ∷ [];
  are = joined_more f.joins a.3.join (told ++ e ∷ []) (event y) f.are a.3.is;
  read = a.3.read;
  all = λ is. let no : ◌≡◌ {A = Option Event} (Some (event y)) None = is in absurd cc;
}

-- one was handed out, and the next one is read
pub more_fed : (choice : Choice) (was mid left : Inputs) (told : List Event) (e : Event) (next : Option Taken) (v v' : JoinedView) → AnswersMore choice mid left v (Ok next) v'
    → HasFed choice was mid told (Some e) v → HasFed choice was left (told ++ e ∷ []) (option_map event next) v'
more_fed choice was mid left told e next v v' answers f = fed_by choice was mid left told e next v v' f (answers f.log_bytes f.line_bytes f.joins f.read)

-- all were handed out
pub all_fed : (choice : Choice) (size : ℕ) (has_lines : Bool) (was left : Inputs) (told : List Event) (v : JoinedView) → v.reader.window.size ≡ size → is_some v.halves ≡ has_lines → (f : HasFed choice was left told None v)
    → AreAll choice size has_lines was left f.joins v
all_fed choice size has_lines was left told v same lines f =
    let whole = f.all refl in
    record {
      log_bytes = f.log_bytes;
      line_bytes = f.line_bytes;
      given = f.given;
      all = subst (λ (n : ℕ). log.AreAll choice n f.log_bytes (events_of f.joins)) same whole.0;
      ended = whole.1;
      are_read = lines;
      asked = f.read.asked;
      counts = f.read.counts;
    }

-- the joined requests are those that were handed out
pub told_fed : (choice : Choice) (was left : Inputs) (told : List Event) (v : JoinedView) → (f : HasFed choice was left told None v) → told ≡ all_joined f.joins
told_fed choice was left told v f = sym (f.are ∙ append-nil told)

-- the reader reads as before
pub alike_then : (a b c : JoinedView) → IsAlike a b → IsAlike b c → IsAlike a c
alike_then a b c one two = record { size = two.size ∙ one.size; lines = two.lines ∙ one.lines }

-- when the first was received stays so
pub start_stays : (told : List Event) (e : Event) (more : List Event) → start_of ((told ++ e ∷ []) ++ more) ≡ start_of (told ++ e ∷ [])
start_stays [] e more = refl
start_stays (x ∷ told) e more = refl

-- the lanes of the levels at hand, with all their shares
pub all_opened : (terms : ClusterTerms) (fixed : List AssignedSaid) (all : ℕ) (given levels : List Level) (lanes : List LevelLane) → given ≡ levels → all ≡ sum_of_shares (map level_view given)
    → AreOpened terms fixed all (map level_view given) lanes → AreOpened terms fixed (sum_of_shares (map level_view levels)) (map level_view levels) lanes
all_opened terms fixed all given levels lanes same shares are =
    subst (λ (n : ℕ). AreOpened terms fixed n (map level_view levels) lanes) (shares ∙ ap (λ (l : List Level). sum_of_shares (map level_view l)) same)
    (subst (λ (l : List Level). AreOpened terms fixed all (map level_view l) lanes) same are)

pub as_many : (terms : ClusterTerms) (fixed : List AssignedSaid) (all : ℕ) (levels : List Level) (lanes : List LevelLane) → AreOpened terms fixed all (map level_view levels) lanes → length lanes ≡ length levels
as_many terms fixed all levels lanes are = AllZip-long (IsOpenedLane terms fixed all) (map level_view levels) lanes are ∙ length-map levels level_view

pub new_in_time : (terms : ClusterTerms) (fixed : List AssignedSaid) (all : ℕ) (levels : List LevelSaid) (lanes : List LevelLane) → AreOpened terms fixed all levels lanes → AreInTime 0 lanes
new_in_time terms fixed all levels lanes are = all_of_zip (IsOpenedLane terms fixed all) (λ (v : LevelLane). v.lane.state.slots.time ≤ 0) (λ l v o. omega (arith, o.time)) levels lanes are

pub new_lived : (terms : ClusterTerms) (fixed : List AssignedSaid) (all : ℕ) (levels : List LevelSaid) (lanes : List LevelLane) → AreOpened terms fixed all levels lanes → AreLived lanes
new_lived terms fixed all levels lanes are =
    all_of_zip (IsOpenedLane terms fixed all) IsAlive (λ l v o. record { under = []; opening = v.lane.state; came = []; told = []; kept = record { lane = o.nobody; counted = o.counted; drawn = o.drawn } }) levels lanes are

-- nobody came yet
pub none_reaches : (w : Course) (lanes : List LevelLane) → AreOpened w.terms w.fixed (all_of w) w.cluster.levels lanes → Reaches w [] lanes 0
none_reaches w lanes are = record {
  adjustments = [];
  many = refl;
  divided = tt;
  come = from_zip (IsOpenedLane w.terms w.fixed (all_of w)) (HasCome w [] []) (λ i l x o. opened w i l x o) 0 w.cluster.levels lanes are;
}

pub none_gone : (choice : Choice) (w : Course) (was left : Inputs) (next : Option Event) (v : JoinedView) (lanes : List LevelLane)
    → HasFed choice was left [] next v → AreOpened w.terms w.fixed (all_of w) w.cluster.levels lanes → w.start ≡ start_of (option_to_list next) → HaveGone choice w was left next v lanes 0
none_gone choice w was left next v lanes fed are start = record { told = []; fed = fed; reaches = none_reaches w lanes are; levels = tt; start = start }

-- the request of one event more came to its lane
pub gone_on : (choice : Choice) (w : Course) (was mid left : Inputs) (e : Event) (next : Option Event) (v v' : JoinedView) (lanes lanes' : List LevelLane) (periods periods' : ℕ)
    → ((told : List Event) → HasFed choice was mid told (Some e) v → HasFed choice was left (told ++ e ∷ []) next v')
    → ((told : List Event) → Reaches w told lanes periods → Reaches w (told ++ e ∷ []) lanes' periods') → IsSome (level_of w.cluster e)
    → HaveGone choice w was mid (Some e) v lanes periods → HaveGone choice w was left next v' lanes' periods'
gone_on choice w was mid left e next v v' lanes lanes' periods periods' fed reaches level g = record {
  told = g.told ++ e ∷ [];
  fed = fed g.told g.fed;
  reaches = reaches g.told g.reaches;
  levels = all_then (λ (x : Event). IsSome (level_of w.cluster x)) g.told e g.levels level;
  start = g.start ∙ sym (start_stays g.told e (option_to_list next));
}

-- each lane was closed
pub tables_of : (w : Course) (told : List Event) (periods end : ℕ) (lanes : List LevelLane) (tables : List LevelTable) → end ≡ period * suc periods → Reaches w told lanes periods → AllZip (IsClosed end) lanes tables
    → HasRun w told tables
tables_of w told periods end lanes tables is r d =
    let past = r.adjustments in (
      past,
      r.divided,
      then_zip (HasCome w told past) (IsClosed (period * suc (length past))) (IsLevelTable w told past) (λ i l x t h is. closed w told past i l x t h is) 0 w.cluster.levels lanes tables r.come
          (subst (λ (n : ℕ). AllZip (IsClosed n) lanes tables) (is ∙ ap (λ (n : ℕ). period * suc n) (sym r.many)) d),
    )

-- the whole log was read, and each lane was closed
pub ran_log : (choice : Choice) (c : ClusterSaid) (terms : ClusterTerms) (start size : ℕ) (has_lines : Bool) (was left : Inputs) (v : JoinedView) (lanes : List LevelLane) (periods : ℕ) (tables : List LevelTable) → v.reader.window.size ≡ size → is_some v.halves ≡ has_lines
    → HaveGone choice (record { cluster = c; terms = terms; fixed = []; start = start }) was left None v lanes periods
    → ((told : List Event) → Reaches (record { cluster = c; terms = terms; fixed = []; start = start }) told lanes periods → HasRun (record { cluster = c; terms = terms; fixed = []; start = start }) told tables)
    → HasRunLog choice c terms size has_lines was left v tables
ran_log choice c terms start size has_lines was left v lanes periods tables same lines g closes =
    let first : start ≡ start_of g.told = g.start ∙ ap start_of (append-nil g.told) in
    let told = told_fed choice was left g.told v g.fed in
    record {
      joins = g.fed.joins;
      all = all_fed choice size has_lines was left g.told v same lines g.fed;
      levels = subst (HaveLevels c) told g.levels;
      ran = subst (λ (l : List Event). HasRun (record { cluster = c; terms = terms; fixed = []; start = start_of l }) l tables) told
          (subst (λ (s : ℕ). HasRun (record { cluster = c; terms = terms; fixed = []; start = s }) g.told tables) first (closes g.told g.reaches));
    }
