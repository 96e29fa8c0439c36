-- The requests of a log run on the levels of a second cluster too.
use Rattle.std.specs.Prelude.{◌≡◌, ◌<◌, Bool, ℕ, suc, ◌*◌, List, [], ◌∷◌, ◌++◌, replicate, length, Option, Some, None, IsSome, string_bytes}
use Rattle.std.specs.Borrow.{Bor}
use Rattle.std.specs.List.{AllByRecursion, flat_map}
use Rattle.std.specs.Option.{option_to_list}
use Rattle.apf_objects.specs.Cluster.{ClusterSaid}
use Rattle.apf_objects.specs.Levels.{LevelSaid}
use Rattle.apf_objects.specs.Rules.{Text}
use Rattle.apf_objects.specs.declared.cluster.Cluster.{Cluster}
use Rattle.apf_matching.specs.Limits.{sum_of_shares}
use Rattle.apf_changes.specs.Scenarios.{AssignedSaid, ScenarioSaid, rate_of}
use Rattle.apf_audit.specs.AuditEvent.{BesideSaid, Event, event}
use Rattle.apf_audit.specs.declared.choice.By.TheVariants.{Schemas}
use Rattle.apf_audit.specs.declared.choice.Choice.{Choice}
use Rattle.apf_joined_reader.specs.Joins.{Join, all_joined}
use Rattle.apf_joined_reader.specs.Reading.{AreAll, Inputs, JoinedView}
use Rattle.apf_cluster.specs.Lending.{period}
use Rattle.apf_cluster.specs.Requests.{name_of, schema_at, start_of}
use Rattle.apf_cluster.specs.Runs.{AreInTime, AreLived, AreOpened, Course, HasFed, HasRun, HaveLevels, Reaches}
use Rattle.apf_cluster.specs.declared.running.ClusterTerms.{ClusterTerms}
use Rattle.apf_cluster.specs.declared.beside.Going.{Going}
use Rattle.apf_cluster.specs.declared.beside.Seen.{Seen}
use Rattle.apf_cluster.specs.declared.both.BothTables.{BothTables}

-- the event as the schemas of the second cluster have it
abbrev pub as_beside : Event → BesideSaid → Event
as_beside e b = record e { schema = b.schema; flow = b.flow; beside = None }

-- whose request it is, and the event as the schemas of the second cluster have it
pub record SeenSaid : Type 0 where
  pub user : Text
  pub event : Event

abbrev pub seen_by : Event → Option BesideSaid → Option SeenSaid
seen_by e None = None
seen_by e (Some b) = Some (record { user = b.user; event = as_beside e b })

abbrev pub seen_beside : Event → Option SeenSaid
seen_beside e = seen_by e e.beside

-- what the code holds of it
abbrev pub seen_view : Seen → SeenSaid
seen_view seen = record { user = string_bytes seen.user; event = event seen.taken }

-- how often the request comes to the second cluster: as is said of its user, and of its schema there
abbrev pub times_of : ScenarioSaid → SeenSaid → ℕ
times_of s seen = rate_of s seen.user (name_of (schema_at s.cluster.schemas seen.event.schema))

-- what comes of it to the second cluster
abbrev pub come_by : ScenarioSaid → Option SeenSaid → List Event
come_by s None = []
come_by s (Some seen) = replicate (times_of s seen) seen.event

abbrev pub come_beside : ScenarioSaid → Event → List Event
come_beside s e = come_by s (seen_beside e)

-- those that come to the second cluster, of these events
abbrev pub all_beside : ScenarioSaid → List Event → List Event
all_beside s told = flat_map (come_beside s) told

-- each of these was matched by the schemas of the second cluster
abbrev pub AreMatchedTwice : List Event → Type 0
AreMatchedTwice told = AllByRecursion (λ (e : Event). IsSome e.beside) told

-- of so many levels a lane for each, on which requests come in the order of time
pub record IsReady (levels : ℕ) (g : Going) : Type 0 where
  pub count : length g.lanes.items ≡ levels
  pub in_time : AreInTime g.clock.last g.lanes.items
  pub next : g.clock.last < period * suc g.clock.periods
  pub lived : AreLived g.lanes.items

-- whatever came before: these came too
abbrev pub TakesMore : Course → List Event → Going → Going → Type 0
TakesMore w more g g' = (told : List Event) → Reaches w told g.lanes.items g.clock.periods → Reaches w (told ++ more) g'.lanes.items g'.clock.periods

-- a lane for each of these levels, to which nobody came
pub record IsNewGoing (terms : ClusterTerms) (fixed : List AssignedSaid) (levels : List LevelSaid) (g : Going) : Type 0 where
  pub opened : AreOpened terms fixed (sum_of_shares levels) levels g.lanes.items
  pub last : g.clock.last ≡ 0
  pub periods : g.clock.periods ≡ 0

-- the request of an event came to both clusters
pub record TakesBoth (w w2 : Course) (s : ScenarioSaid) (e : Event) (first first' second second' : Going) : Type 0 where
  pub takes : TakesMore w (e ∷ []) first first'
  pub level : HaveLevels w.cluster (e ∷ [])
  pub takes_too : TakesMore w2 (come_beside s e) second second'
  pub matched : IsSome e.beside
  pub levels_too : HaveLevels w2.cluster (come_beside s e)

-- what was handed out so far came to the lanes of both
pub record HaveBothGone (choice : Choice) (w w2 : Course) (s : ScenarioSaid) (was left : Inputs) (next : Option Event) (v : JoinedView) (first second : Going) : Type 0 where
  pub told : List Event
  pub fed : HasFed choice was left told next v
  pub reaches : Reaches w told first.lanes.items first.clock.periods
  pub reaches_too : Reaches w2 (all_beside s told) second.lanes.items second.clock.periods
  pub levels : HaveLevels w.cluster told
  pub matched : AreMatchedTwice told
  pub levels_too : HaveLevels w2.cluster (all_beside s told)
  pub start : w.start ≡ start_of (told ++ option_to_list next)

-- every request, by the schemas of these two clusters
abbrev pub choice_of_both : Bor Cluster → Bor Cluster → Choice
choice_of_both first second = record { by = Schemas first second; user = None; since = None; until = None }

-- the terms of the second cluster: its own seats
abbrev pub terms_beside : ClusterTerms → ScenarioSaid → ClusterTerms
terms_beside terms s = record terms { seats = s.seats }

-- how the requests run on the second cluster, where the first one was received at this time
abbrev pub course_beside : ClusterTerms → ScenarioSaid → ℕ → Course
course_beside terms s start = record { cluster = s.cluster; terms = terms_beside terms s; fixed = s.nominal; start = start }

-- these requests ran on the first cluster, and as often as the second one's rates say on the second
pub record HaveRunBoth (c : ClusterSaid) (terms : ClusterTerms) (s : ScenarioSaid) (told : List Event) (tables : BothTables) : Type 0 where
  pub levels : HaveLevels c told
  pub matched : AreMatchedTwice told
  pub levels_too : HaveLevels s.cluster (all_beside s told)
  pub ran : HasRun (record { cluster = c; terms = terms; fixed = []; start = start_of told }) told tables.first.items
  pub ran_too : HasRun (course_beside terms s (start_of told)) (all_beside s told) tables.second.items

-- The whole log was read once, and each of its requests, with what its line says, was matched by the schemas of both clusters. Each is of one level of the first, and ran there; and as often as the second one's rates say, it ran on a level of the second
pub record HasRunBoth (choice : Choice) (c : ClusterSaid) (terms : ClusterTerms) (s : ScenarioSaid) (size : ℕ) (has_lines : Bool) (was left : Inputs) (v : JoinedView) (tables : BothTables) : Type 0 where
  pub joins : List Join
  pub all : AreAll choice size has_lines was left joins v
  pub ran : HaveRunBoth c terms s (all_joined joins) tables

-- the same, by the schemas of the first cluster and of the second one, which is the one of the scenario
pub record HasRunScenarios (first : Bor Cluster) (c : ClusterSaid) (terms : ClusterTerms) (scenario : Cluster) (s : ScenarioSaid) (size : ℕ) (has_lines : Bool) (was left : Inputs) (v : JoinedView) (tables : BothTables) : Type 0 where
  pub second : Bor Cluster
  pub its : second.now ≡ scenario
  pub ran : HasRunBoth (choice_of_both first second) c terms s size has_lines was left v tables
