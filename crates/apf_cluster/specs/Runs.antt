-- The requests of a log run on the levels of a cluster.
use Rattle.std.specs.Prelude.{◌≡◌, ℕ, suc, ◌+◌, ◌-◌, ◌*◌, ◌≤◌, not, ◌&&◌, true, false, List, [], ◌∷◌, ◌++◌, length, map, count_by, slice_get, slice_set, Bool, Option, Some, None, IsSome, if◌then◌else◌}
use Rattle.std.specs.Borrow.{Bor}
use Rattle.std.specs.List.{AllByRecursion, AllZip}
use Rattle.std.specs.Option.{option_to_list}
use Rattle.std.specs.Io.KnownBytes.{IsAtEnd}
use Rattle.apf_charges.specs.declared.charges.ChargedBy.TheVariants.{Time}
use Rattle.apf_times.specs.declared.window.Arrival.{Arrival}
use Rattle.apf_traces.specs.declared.request.TraceRequest.{TraceRequest}
use Rattle.apf_objects.specs.Cluster.{ClusterSaid, cluster_view}
use Rattle.apf_objects.specs.Levels.{LevelSaid}
use Rattle.apf_objects.specs.declared.cluster.Cluster.{Cluster}
use Rattle.apf_matching.specs.Limits.{sum_of_shares}
use Rattle.apf_matching.specs.declared.limits.LevelLimits.{LevelLimits}
use Rattle.apf_changes.specs.Scenarios.{AssignedSaid, assigned_view, last_of}
use Rattle.apf_lending.specs.declared.claim.Claim.{Claim}
use Rattle.apf_lender.specs.Periods.{AskingView, IsNew}
use Rattle.apf_lender.specs.declared.bounds.Bounds.{Bounds}
use Rattle.apf_audit.specs.AuditEvent.{Event}
use Rattle.apf_audit.specs.declared.choice.By.TheVariants.{Schema}
use Rattle.apf_audit.specs.declared.choice.Choice.{Choice}
use Rattle.apf_audit_reader.specs.Reading as log
use Rattle.apf_joined_reader.specs.Joins.{Join, all_joined, events_of}
use Rattle.apf_joined_reader.specs.Reading.{AreAll, Gave, HasJoined, Inputs, JoinedView}
use Rattle.apf_stream.specs.States.{State}
use Rattle.apf_stream.specs.declared.deed.NewLimit.{NewLimit}
use Rattle.apf_stream.specs.declared.ended.Ended.{Ended}
use Rattle.apf_rows.specs.Tables.{IsTable}
use Rattle.apf_rows.specs.declared.table.Table.{Table}
use Rattle.apf_simulator.specs.Feeds.{IsOver}
use Rattle.apf_simulator.specs.Lanes.{IsLane, IsLaneUnder, IsOpening, LaneView}
use Rattle.apf_simulator.specs.Told.{EndsWith, IsTableOf}
use Rattle.apf_cluster_tables.specs.Limits.{limit_of}
use Rattle.apf_cluster_tables.specs.declared.level_table.LevelTable.{LevelTable}
use Rattle.apf_cluster.specs.Lending.{Adjustment, HasClaimed, IsAdjustment, IsAsked, asked_at, bounds_of, greatest_of, greatest_set, greatest_then, least_set, least_then, or_none, period, set_limits}
use Rattle.apf_cluster.specs.Drawn.{AreDrawn, DrawsStill, HasStrip, IsStripBy, StillHas}
use Rattle.apf_cluster.specs.Late.{AreCounted, IsTableSince, came_from, is_counted, told_from}
use Rattle.apf_cluster.specs.Shapes.{config_of, limits_from, slots_of}
use Rattle.apf_cluster.specs.Requests.{level_of, of_level, request_of, said, start_of}
use Rattle.apf_cluster.specs.declared.feeding.Way.{Way}
use Rattle.apf_cluster.specs.declared.late.Late.{Late}
use Rattle.apf_cluster.specs.declared.lanes.LevelLane.{LevelLane}
use Rattle.apf_cluster.specs.declared.running.ClusterTerms.{ClusterTerms}

-- From a level to which nobody came these came to the lane, it was set these limits, and these were told. Those from a time on are counted, and all are drawn
pub record IsKept (under : List NewLimit) (opening : State) (came : List (Arrival TraceRequest)) (told : List Ended) (v : LevelLane) : Type 0 where
  pub lane : IsLaneUnder under opening came told v.lane
  pub counted : AreCounted came told v.late
  pub drawn : AreDrawn (limit_of v.nominal) under told v.drawn

-- requests came to the lane by turns of it
pub record IsAlive (v : LevelLane) : Type 0 where
  pub under : List NewLimit
  pub opening : State
  pub came : List (Arrival TraceRequest)
  pub told : List Ended
  pub kept : IsKept under opening came told v

abbrev pub AreLived : List LevelLane → Type 0
AreLived lanes = AllByRecursion IsAlive lanes

-- requests came to a lane by turns of it, and who was told last is not counted yet
pub record IsAhead (l : LaneView) (late : Late) : Type 0 where
  pub under : List NewLimit
  pub opening : State
  pub came : List (Arrival TraceRequest)
  pub told : List Ended
  pub lane : IsLaneUnder under opening came (told ++ l.ends) l
  pub counted : AreCounted came told late

-- nothing later was carried out
abbrev pub AreInTime : ℕ → List LevelLane → Type 0
AreInTime at lanes = AllByRecursion (λ (v : LevelLane). v.lane.state.slots.time ≤ at) lanes

-- of two lists of one length, this is true of each two at one place, counted from this number
abbrev pub ZipFrom : {A B : Type 0} → (ℕ → A → B → Type 0) → ℕ → List A → List B → Type 0
ZipFrom R i [] [] = Unit {0}
ZipFrom R i [] (y ∷ ys) = ⊥
ZipFrom R i (x ∷ xs) [] = ⊥
ZipFrom R i (x ∷ xs) (y ∷ ys) = R i x y × ZipFrom R (suc i) xs ys

-- the limits of a level, where all levels have this many shares, and these nominal limits were fixed
abbrev pub limits_in : ClusterTerms → List AssignedSaid → (all : ℕ) → LevelSaid → LevelLimits
limits_in terms fixed all l = limits_from l.settings terms.seats all (last_of l.name fixed)

-- between which limits it is lent seats
abbrev pub bounds_in : ClusterTerms → List AssignedSaid → (all : ℕ) → LevelSaid → Bounds
bounds_in terms fixed all l = bounds_of l.settings (limits_in terms fixed all l)

-- a level is set other limits if seats are lent, and it holds requests back
abbrev pub is_lent : ClusterTerms → LevelSaid → Bool
is_lent terms l = terms.lends && not l.settings.is_exempt

-- A level of its own config, to which nobody came. It has slots for its greatest limit
abbrev pub IsOpeningOf : ClusterTerms → List AssignedSaid → (all : ℕ) → LevelSaid → State → Type 0
IsOpeningOf terms fixed all l s =
    IsOpening (config_of l.settings (limits_in terms fixed all l).nominal) (slots_of (config_of l.settings (greatest_of (limits_in terms fixed all l)))) terms.patience Time s

-- the limits of two lanes are the same
pub record AreSameLimits (v v' : LevelLane) : Type 0 where
  pub lent : v'.is_lent ≡ v.is_lent
  pub since : v'.late.since ≡ v.late.since
  pub nominal : v'.nominal ≡ v.nominal
  pub draws : DrawsStill v.drawn v'.drawn
  pub least : v'.least ≡ v.least
  pub greatest : v'.greatest ≡ v.greatest

-- and how many of their requests the server of the log turned away
pub record IsOfLevel (v v' : LevelLane) : Type 0 where
  pub limits : AreSameLimits v v'
  pub turned_away : v'.turned_away ≡ v.turned_away

-- From a level to which nobody came these came to the lane of this place, it was set these limits, and these were told. It claimed by that, by these adjustments
pub record IsRunning (under : List NewLimit) (i : ℕ) (bounds : Bounds) (adjustments : List Adjustment) (opening : State) (came : List (Arrival TraceRequest)) (told : List Ended) (v : LevelLane) : Type 0 where
  pub kept : IsKept under opening came told v
  pub asked : IsAsked i bounds adjustments came told v.asking

-- whatever it was of before: these limits were set, these came more, and some were told more
abbrev pub KeepsOn : List NewLimit → List (Arrival TraceRequest) → LevelLane → LevelLane → Type 0
KeepsOn set more v v' = (under : List NewLimit) (opening : State) (came : List (Arrival TraceRequest)) (told : List Ended)
    → IsKept under opening came told v → IsKept (under ++ set) opening (came ++ more) (told ++ v'.lane.ends) v'

-- the same, with what its requests ask for: some were told more
abbrev pub RunsOn : LevelLane → LevelLane → Type 0
RunsOn v v' = (under : List NewLimit) (i : ℕ) (bounds : Bounds) (adjustments : List Adjustment) (opening : State) (came : List (Arrival TraceRequest)) (told : List Ended)
    → IsRunning under i bounds adjustments opening came told v → (more : List Ended) × IsRunning under i bounds adjustments opening came (told ++ more) v'

-- whatever it was of before: this came more, and some were told more
abbrev pub TakesOn : Arrival TraceRequest → LevelLane → LevelLane → Type 0
TakesOn x v v' = (under : List NewLimit) (i : ℕ) (bounds : Bounds) (adjustments : List Adjustment) (opening : State) (came : List (Arrival TraceRequest)) (told : List Ended)
    → IsRunning under i bounds adjustments opening came told v → (more : List Ended) × IsRunning under i bounds adjustments opening (came ++ x ∷ []) (told ++ more) v'

-- whatever it was of before: this limit was set, and some were told more
abbrev pub SetsOn : NewLimit → LevelLane → LevelLane → Type 0
SetsOn new v v' = (under : List NewLimit) (i : ℕ) (bounds : Bounds) (adjustments : List Adjustment) (opening : State) (came : List (Arrival TraceRequest)) (told : List Ended)
    → IsRunning under i bounds adjustments opening came told v → (more : List Ended) × IsRunning (under ++ new ∷ []) i bounds adjustments opening came (told ++ more) v'

-- whatever it was of before: a period ended at this time, this is what the level claims, and some were told more
abbrev pub EndsOn : ℕ → Claim → LevelLane → LevelLane → Type 0
EndsOn at claim v v' = (under : List NewLimit) (i : ℕ) (bounds : Bounds) (adjustments : List Adjustment) (opening : State) (came : List (Arrival TraceRequest)) (told : List Ended) (a : Adjustment)
    → IsRunning under i bounds adjustments opening came told v → at ≡ period * suc (length adjustments) → slice_get a.claims i ≡ Some claim
    → (more : List Ended) × IsRunning under i bounds (a ∷ adjustments) opening came (told ++ more) v'

-- the limit of the lane was set
pub record IsSet (new : NewLimit) (v v' : LevelLane) : Type 0 where
  pub goes : SetsOn new v v'
  pub lent : v'.is_lent ≡ v.is_lent
  pub since : v'.late.since ≡ v.late.since
  pub nominal : v'.nominal ≡ v.nominal
  pub draws : DrawsStill v.drawn v'.drawn
  pub least : v'.least ≡ least_then v.late.since new.at new.limit v.least
  pub greatest : v'.greatest ≡ greatest_then v.late.since new.at new.limit v.greatest
  pub turned_away : v'.turned_away ≡ v.turned_away

-- if the level is lent seats; else nothing is done
abbrev pub IsSetBy : Bool → NewLimit → LevelLane → LevelLane → Type 0
IsSetBy false new v v' = v' ≡ v
IsSetBy true new v v' = IsSet new v v'

-- the period of each level ended at this time, and this is what each claims
pub record AreEnded (at : ℕ) (lanes lanes' : List LevelLane) (claims : List Claim) : Type 0 where
  pub many : length claims ≡ length lanes
  pub still : length lanes' ≡ length lanes
  pub each : (i : ℕ) (v v' : LevelLane) → slice_get lanes i ≡ Some v → slice_get lanes' i ≡ Some v'
      → (claim : Claim) × (slice_get claims i ≡ Some claim) × EndsOn at claim v v' × IsOfLevel v v'

-- each lane went on
pub record HaveGoneOn (lanes lanes' : List LevelLane) : Type 0 where
  pub still : length lanes' ≡ length lanes
  pub each : (i : ℕ) (v v' : LevelLane) → slice_get lanes i ≡ Some v → slice_get lanes' i ≡ Some v' → RunsOn v v' × IsOfLevel v v'

-- each lane of a level that is lent seats was set its limit at this time
pub record AreSet (at : ℕ) (limits : List ℕ) (lanes lanes' : List LevelLane) : Type 0 where
  pub still : length lanes' ≡ length lanes
  pub each : (i : ℕ) (v v' : LevelLane) → slice_get lanes i ≡ Some v → slice_get lanes' i ≡ Some v'
      → IsSetBy v.is_lent (record { at = at; limit = limit_of (or_none (slice_get limits i)) }) v v'

-- a level's lane, to which nobody came
pub record IsOpenedLane (terms : ClusterTerms) (fixed : List AssignedSaid) (all : ℕ) (l : LevelSaid) (v : LevelLane) : Type 0 where
  pub opened : IsOpeningOf terms fixed all l v.lane.state
  pub nobody : IsLane v.lane.state [] [] v.lane
  pub since : v.late.since ≡ terms.since
  pub counted : AreCounted [] [] v.late
  pub drawn : AreDrawn (limit_of v.nominal) [] [] v.drawn
  pub draws : HasStrip terms.draws v.drawn.strip
  pub time : v.lane.state.slots.time ≡ 0
  pub asks : IsNew (bounds_in terms fixed all l) 0 v.asking
  pub lent : v.is_lent ≡ is_lent terms l
  pub nominal : v.nominal ≡ (limits_in terms fixed all l).nominal
  pub least : v.least ≡ limit_of (limits_in terms fixed all l).nominal
  pub greatest : v.greatest ≡ limit_of (limits_in terms fixed all l).nominal
  pub none : v.turned_away ≡ 0

-- a lane for each of these levels, to which nobody came
abbrev pub AreOpened : ClusterTerms → List AssignedSaid → (all : ℕ) → List LevelSaid → List LevelLane → Type 0
AreOpened terms fixed all levels lanes = AllZip (IsOpenedLane terms fixed all) levels lanes

-- this came to the lane at this place, and the others stayed as they were
pub record GoesOnAt (place : ℕ) (x : Arrival TraceRequest) (turned_away : Bool) (lanes lanes' : List LevelLane) : Type 0 where
  pub before : LevelLane
  pub there : slice_get lanes place ≡ Some before
  pub after : LevelLane
  pub is : lanes' ≡ slice_set lanes place after
  pub goes : TakesOn x before after
  pub same : AreSameLimits before after
  pub counted : after.turned_away ≡ before.turned_away + (if is_counted before.late.since turned_away x.item.arrives_at then 1 else 0)

-- the request of an event came to the lane of its level
pub record TakesOne (c : ClusterSaid) (start : ℕ) (e : Event) (lanes lanes' : List LevelLane) : Type 0 where
  pub place : ℕ
  pub level : level_of c e ≡ Some place
  pub came : Arrival TraceRequest
  pub is : said came ≡ request_of c start e
  pub goes : GoesOnAt place came e.turned_away lanes lanes'

-- a cluster of a server, and when the first request was received
pub record Course : Type 0 where
  pub cluster : ClusterSaid
  pub terms : ClusterTerms
  -- nominal limits that were fixed
  pub fixed : List AssignedSaid
  pub start : ℕ

-- the shares of all levels together
abbrev pub all_of : Course → ℕ
all_of w = sum_of_shares w.cluster.levels

-- the course of what is fed
abbrev pub course_of : Way → Course
course_of way = record { cluster = cluster_view way.cluster.now; terms = way.terms; fixed = map assigned_view way.fixed.now; start = way.start }

-- the request of an event was turned away, and is counted, where the first one was received at this time
abbrev pub was_refused : Course → Event → Bool
was_refused w e = is_counted w.terms.since e.turned_away (e.received - w.start)

-- Of these events, those that are of the level at this place came to its lane, which was opened for it, in their order. It claimed at the end of each period, and was set the limits of these adjustments
pub record HasCome (w : Course) (told : List Event) (adjustments : List Adjustment) (i : ℕ) (l : LevelSaid) (v : LevelLane) : Type 0 where
  pub opening : State
  pub opened : IsOpeningOf w.terms w.fixed (all_of w) l opening
  pub came : List (Arrival TraceRequest)
  pub out : List Ended
  pub runs : IsRunning (set_limits (is_lent w.terms l) i adjustments) i (bounds_in w.terms w.fixed (all_of w) l) adjustments opening came out v
  pub are : map said came ≡ map (request_of w.cluster w.start) (of_level w.cluster i told)
  pub lent : v.is_lent ≡ is_lent w.terms l
  pub since : v.late.since ≡ w.terms.since
  pub draws : HasStrip w.terms.draws v.drawn.strip
  pub nominal : v.nominal ≡ (limits_in w.terms w.fixed (all_of w) l).nominal
  pub least : v.least ≡ least_set (is_lent w.terms l) w.terms.since i (limit_of (limits_in w.terms w.fixed (all_of w) l).nominal) adjustments
  pub greatest : v.greatest ≡ greatest_set (is_lent w.terms l) w.terms.since i (limit_of (limits_in w.terms w.fixed (all_of w) l).nominal) adjustments
  pub turned_away : v.turned_away ≡ count_by (was_refused w) (of_level w.cluster i told)

-- the same of each level
abbrev pub HaveCome : Course → List Event → List Adjustment → List LevelLane → Type 0
HaveCome w told adjustments lanes = ZipFrom (HasCome w told adjustments) 0 w.cluster.levels lanes

-- the nominal limits of these lanes' levels together
abbrev pub nominal_of_all : List LevelLane → ℕ
nominal_of_all [] = 0
nominal_of_all (v ∷ lanes) = v.nominal + nominal_of_all lanes

-- the nominal limits of these levels together, where all levels have this many shares
abbrev pub sum_of_limits : ClusterTerms → List AssignedSaid → (all : ℕ) → List LevelSaid → ℕ
sum_of_limits terms fixed all [] = 0
sum_of_limits terms fixed all (l ∷ levels) = (limits_in terms fixed all l).nominal + sum_of_limits terms fixed all levels

-- what is divided: the nominal limits of all levels together
abbrev pub seats_of : Course → ℕ
seats_of w = sum_of_limits w.terms w.fixed (all_of w) w.cluster.levels

-- each of these was a division of the seats by what all levels claimed
abbrev pub AreAdjusted : Course → List Adjustment → Type 0
AreAdjusted w adjustments = AllByRecursion (IsAdjustment (seats_of w) (length w.cluster.levels)) adjustments

-- these came, and so many periods ended
pub record Reaches (w : Course) (told : List Event) (lanes : List LevelLane) (periods : ℕ) : Type 0 where
  pub adjustments : List Adjustment
  pub many : length adjustments ≡ periods
  pub divided : AreAdjusted w adjustments
  pub come : HaveCome w told adjustments lanes

-- what the inputs gave so far: these were handed out, each with what its line says, and this comes next; nobody does once all were
pub record HasFed (choice : Choice) (was left : Inputs) (told : List Event) (next : Option Event) (v : JoinedView) : Type 0 where
  pub log_bytes : List ℕ
  pub line_bytes : List ℕ
  pub given : Gave was left log_bytes line_bytes
  pub joins : List Join
  pub are : all_joined joins ≡ told ++ option_to_list next
  pub read : HasJoined choice log_bytes line_bytes joins left v
  pub all : next ≡ None → log.AreAll choice v.reader.window.size log_bytes (events_of joins) × IsAtEnd left.log

-- each of these is of a level
abbrev pub HaveLevels : ClusterSaid → List Event → Type 0
HaveLevels c told = AllByRecursion (λ e. IsSome (level_of c e)) told

-- what was handed out so far came to the lanes
pub record HaveGone (choice : Choice) (w : Course) (was left : Inputs) (next : Option Event) (v : JoinedView) (lanes : List LevelLane) (periods : ℕ) : Type 0 where
  pub told : List Event
  pub fed : HasFed choice was left told next v
  pub reaches : Reaches w told lanes periods
  pub levels : HaveLevels w.cluster told
  pub start : w.start ≡ start_of (told ++ option_to_list next)

-- nobody asks for seats from this time on
pub record IsQuiet (end : ℕ) (v : AskingView) : Type 0 where
  pub nobody : v.demand.seats ≡ 0
  pub since : v.demand.since ≤ end

-- all that is due was carried out on a level's lane, nobody asks for seats from this time on, and its level was ended
pub record IsClosed (end : ℕ) (v : LevelLane) (t : LevelTable) : Type 0 where
  pub over : LevelLane
  pub runs : RunsOn v over
  pub same : IsOfLevel v over
  pub is_over : IsOver over.lane
  pub quiet : IsQuiet end over.asking
  pub whole : Table
  pub of_all : IsTableOf over.lane whole
  pub last : t.last ≡ whole.all.sums.last
  pub since : t.since ≡ over.late.since
  pub table : IsTableSince over.late whole t.table
  pub drawn : (first : ℕ) (under : List NewLimit) (told : List Ended) → AreDrawn first under told over.drawn → IsStripBy end first under told t.strip
  pub still : StillHas over.drawn.strip t.strip
  pub nominal : t.nominal ≡ over.nominal
  pub least : t.least ≡ over.least
  pub greatest : t.greatest ≡ over.greatest
  pub turned_away : t.turned_away ≡ over.turned_away

-- Of these events, those that are of the level at this place ran on it, in their order, until nothing was due, and this is what they came to.
-- The table is of all that came from a time on; that of all has the numbers of the level's own book. All are drawn, if that is asked for.
-- At the end of each period the level claimed by what its requests asked for, and it was set the limits of these adjustments. Nobody asks for anything behind the last of these periods and the next one.
pub record IsLevelTable (w : Course) (told : List Event) (adjustments : List Adjustment) (i : ℕ) (l : LevelSaid) (t : LevelTable) : Type 0 where
  pub opening : State
  pub opened : IsOpeningOf w.terms w.fixed (all_of w) l opening
  pub came : List (Arrival TraceRequest)
  pub out : List Ended
  pub lane : LaneView
  pub ran : IsLaneUnder (set_limits (is_lent w.terms l) i adjustments) opening came out lane
  pub is_over : IsOver lane
  pub are : map said came ≡ map (request_of w.cluster w.start) (of_level w.cluster i told)
  pub lately : ℕ
  pub claimed : HasClaimed i (bounds_in w.terms w.fixed (all_of w) l) (asked_at came out) adjustments lately
  pub quiet : (time : ℕ) → period * suc (length adjustments) ≤ time → asked_at came out time ≡ 0
  pub whole : Table
  pub of_all : IsTable came out whole
  pub ends : EndsWith lane whole
  pub last : t.last ≡ whole.all.sums.last
  pub since : t.since ≡ w.terms.since
  pub table : IsTable (came_from w.terms.since came) (told_from w.terms.since out) t.table
  pub draws : HasStrip w.terms.draws t.strip
  pub drawn : IsStripBy (period * suc (length adjustments)) (limit_of (limits_in w.terms w.fixed (all_of w) l).nominal) (set_limits (is_lent w.terms l) i adjustments) out t.strip
  pub nominal : t.nominal ≡ (limits_in w.terms w.fixed (all_of w) l).nominal
  pub least : t.least ≡ least_set (is_lent w.terms l) w.terms.since i (limit_of (limits_in w.terms w.fixed (all_of w) l).nominal) adjustments
  pub greatest : t.greatest ≡ greatest_set (is_lent w.terms l) w.terms.since i (limit_of (limits_in w.terms w.fixed (all_of w) l).nominal) adjustments
  pub turned_away : t.turned_away ≡ count_by (was_refused w) (of_level w.cluster i told)

-- what the requests of each level came to
abbrev pub AreTables : Course → List Event → List Adjustment → List LevelTable → Type 0
AreTables w told adjustments tables = ZipFrom (IsLevelTable w told adjustments) 0 w.cluster.levels tables

-- They ran on the levels, and this is what they came to. The seats were divided anew at the end of each period, the last of which comes first
abbrev pub HasRun : Course → List Event → List LevelTable → Type 0
HasRun w told tables = (adjustments : List Adjustment) × AreAdjusted w adjustments × AreTables w told adjustments tables

-- every request, by the schemas of this cluster
abbrev pub choice_by : Bor Cluster → Choice
choice_by cluster = record { by = Schema cluster; user = None; since = None; until = None }

-- The whole log was read. Each of its requests, with what its line says, is of one level, and ran on it, and this is what they came to
pub record HasRunLog (choice : Choice) (c : ClusterSaid) (terms : ClusterTerms) (size : ℕ) (has_lines : Bool) (was left : Inputs) (v : JoinedView) (tables : List LevelTable) : Type 0 where
  pub joins : List Join
  pub all : AreAll choice size has_lines was left joins v
  pub levels : HaveLevels c (all_joined joins)
  pub ran : HasRun (record { cluster = c; terms = terms; fixed = []; start = start_of (all_joined joins) }) (all_joined joins) tables

-- nothing was read
abbrev pub IsFresh : JoinedView → Type 0
IsFresh v = (choice : Choice) (left : Inputs) → HasJoined choice [] [] [] left v
