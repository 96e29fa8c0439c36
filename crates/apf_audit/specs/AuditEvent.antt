-- What the JSON value of a line of an audit log says.
use Rattle.std.specs.Prelude.{◌≡◌, ℕ, ◌≤◌, List, [], ◌∷◌, length, map, Bool, true, false, ◌&&◌, ◌||◌, ◌==◌, not, nat_le, if◌then◌else◌, Option, Some, None, option_and_then, option_map, is_none, IfSome, Result, Ok, Err, codes, bytes_eq, string_bytes}
use Rattle.std.specs.Option.{option_map_or}
use Rattle.serde_json.specs.Data.{Data}
use Rattle.serde_json.specs.Find.{get, as_str}
use Rattle.apf_files.specs.FirstFault.{◌>>=◌, or_fault}
use Rattle.apf_files.specs.JsonFile.{text_at, whole_of}
use Rattle.apf_times.specs.Limits.{max_run}
use Rattle.apf_words.specs.Limits.{max_width}
use Rattle.apf_objects.specs.Schemas.{schema_view}
use Rattle.apf_objects.specs.declared.schema.Schema.{Schema as FlowSchema}
use Rattle.apf_objects.specs.declared.schema.Distinguisher.{Distinguisher}
use Rattle.apf_objects.specs.declared.schema.Distinguisher.TheVariants.{User as by_user, Namespace as by_namespace, Nothing as by_nothing}
use Rattle.apf_matching.specs.First.{schema_of as schema_of_request}
use Rattle.apf_routing.specs.Events.{request_of}
use Rattle.apf_audit.specs.Choice.{distinguisher_by, is_chosen, within}
use Rattle.apf_audit.specs.Times.{instant_of, wait_of, run_of}
use Rattle.apf_audit.specs.declared.choice.By.{By}
use Rattle.apf_audit.specs.declared.choice.By.TheVariants.{User, Namespace, Schema, Schemas}
use Rattle.apf_audit.specs.declared.choice.Choice.{Choice}
use Rattle.apf_audit.specs.declared.event.Beside.{Beside}
use Rattle.apf_audit.specs.declared.event.Outcome.{Outcome}
use Rattle.apf_audit.specs.declared.event.Outcome.TheVariants.{Chosen, Unnamed, LeftOut, Unfinished}
use Rattle.apf_audit.specs.declared.event.Taken.{Taken}
use Rattle.apf_audit.specs.declared.fault.AuditFault.{AuditFault}
use Rattle.apf_audit.specs.declared.fault.AuditFault.TheVariants.{NotEvent, BadUser, BadNamespace, BadReceived, BadStage, BadWait, BadRun}

-- the name of a user, or of a namespace, has at most this many bytes
abbrev pub max_name : ℕ
max_name = 4096

-- an id that is kept has at most this many bytes
abbrev pub max_id : ℕ
max_id = 64

-- what a request is by the schemas of a second cluster
pub record BesideSaid : Type 0 where
  -- the name of whose request it is
  pub user : List ℕ
  -- the place of its schema
  pub schema : Option ℕ
  -- the name of its flow
  pub flow : List ℕ

-- what the code takes of a second cluster
abbrev pub beside_said : Beside → BesideSaid
beside_said beside = record { user = string_bytes beside.user; schema = beside.schema; flow = string_bytes beside.distinguisher }

-- what is taken of an event: the time of its arrival in microseconds from 1970 on, whether it was turned away, how long it ran, 0 if it
-- was turned away, and the bytes of its flow's name
pub record Event : Type 0 where
  pub line : ℕ
  -- the id by which the server names it, where one is kept
  pub audit_id : Option (List ℕ)
  pub received : ℕ
  pub turned_away : Bool
  pub runs_for : ℕ
  -- how many seats it takes
  pub width : ℕ
  -- the place of its schema, where a schema makes a flow
  pub schema : Option ℕ
  pub flow : List ℕ
  -- what it is by the schemas of a second cluster, where there is one
  pub beside : Option BesideSaid

-- what the code takes of an event
abbrev pub event : Taken → Event
event taken = record {
  line = taken.line;
  audit_id = option_map string_bytes taken.audit_id;
  received = taken.received;
  turned_away = taken.turned_away;
  runs_for = taken.runs_for;
  width = taken.width;
  schema = taken.schema;
  flow = string_bytes taken.distinguisher;
  beside = option_map beside_said taken.beside;
}

-- the text at a key of the object at another, if there is one
unfoldable pub text_within : (outer inner : List ℕ) → Data → Option (List ℕ)
text_within outer inner d = option_and_then (text_at inner) (get outer d)

-- a request for such a subresource is a connection that lasts
unfoldable pub is_lasting : List ℕ → Bool
is_lasting subresource =
    bytes_eq subresource (codes "exec") || bytes_eq subresource (codes "attach") || bytes_eq subresource (codes "portforward")
    || bytes_eq subresource (codes "proxy") || bytes_eq subresource (codes "log")

abbrev pub lasts : Option (List ℕ) → Bool
lasts (Some subresource) = is_lasting subresource
lasts None = false

-- whether an event of this stage, verb and subresource is taken; without a stage or a verb it is no event
abbrev pub taken_by : (stage verb subresource : Option (List ℕ)) → Option Bool
taken_by (Some stage) (Some verb) subresource =
    Some (bytes_eq stage (codes "ResponseComplete") && not (bytes_eq verb (codes "watch")) && not (lasts subresource))
taken_by (Some stage) None subresource = None
taken_by None verb subresource = None

-- whether an event is taken, or none where the value is no event
unfoldable pub is_taken : Data → Option Bool
is_taken d = taken_by (text_at (codes "stage") d) (text_at (codes "verb") d) (text_within (codes "objectRef") (codes "subresource") d)

-- the text, if it has no more bytes than this
abbrev pub short : ℕ → List ℕ → Option (List ℕ)
short most text = if nat_le (length text) most then Some text else None

-- the id by which the server names the request: the text at `auditID`, if it has at most 64 bytes
unfoldable pub id_of : Data → Option (List ℕ)
id_of d = option_and_then (short max_id) (text_at (codes "auditID") d)

-- the name of whose request it is: of the user who is impersonated, if the event has one
abbrev pub name_by : Data → Option Data → Option (List ℕ)
name_by d None = text_within (codes "user") (codes "username") d
name_by d (Some impersonated) = text_at (codes "username") impersonated

-- the name of the user, where a trace can have it
unfoldable pub user_of : Data → Option (List ℕ)
user_of d = option_and_then (short max_name) (name_by d (get (codes "impersonatedUser") d))

-- what stands where an event has the name of its user, who is impersonated if it has such a one
abbrev pub name_found : Data → Option Data → Option Data
name_found d None = option_and_then (get (codes "username")) (get (codes "user") d)
name_found d (Some impersonated) = get (codes "username") impersonated

-- the event has no name of a user
unfoldable pub is_unnamed : Data → Bool
is_unnamed d = is_none (name_found d (get (codes "impersonatedUser") d))

-- the namespace of an object that has one
abbrev pub namespace_by : Option Data → Option (List ℕ)
namespace_by None = Some []
namespace_by (Some d) = option_and_then (short max_name) (as_str d)

-- the namespace, where a trace can have it; without one it is the empty text
unfoldable pub namespace_of : Data → Option (List ℕ)
namespace_of d = namespace_by (option_and_then (get (codes "namespace")) (get (codes "objectRef") d))

-- the place of the one of these schemas that the request of an event of this user is of
abbrev pub place_among : List FlowSchema → List ℕ → Data → Option ℕ
place_among schemas user d = schema_of_request (request_of user d) (map schema_view schemas)

-- the place of the schema that the request of an event of this user is of, where a schema makes a flow
abbrev pub schema_of : By → List ℕ → Data → Option ℕ
schema_of User user d = None
schema_of Namespace user d = None
schema_of (Schema cluster) user d = place_among cluster.now.schemas.items user d
schema_of (Schemas first second) user d = place_among first.now.schemas.items user d

-- the name of the flow of an event of this user, by what makes a flow
abbrev pub flow_of : Distinguisher → List ℕ → Data → Option (List ℕ)
flow_of by_user user d = Some user
flow_of by_namespace user d = namespace_of d
flow_of by_nothing user d = Some []

-- what the request of an event of this user is by the schema at this place of these
abbrev pub said_at : List FlowSchema → Option ℕ → List ℕ → Data → Option BesideSaid
said_at schemas place user d = option_map (λ flow. record { user = user; schema = place; flow = flow }) (flow_of (within schemas place) user d)

-- what it is by these schemas
abbrev pub said_by : List FlowSchema → List ℕ → Data → Option BesideSaid
said_by schemas user d = said_at schemas (place_among schemas user d) user d

-- what it is by the schemas of a second cluster, if there is one; or none where a trace can't have the namespace that this asks for
abbrev pub beside_of : By → List ℕ → Data → Option (Option BesideSaid)
beside_of User user d = Some None
beside_of Namespace user d = Some None
beside_of (Schema cluster) user d = Some None
beside_of (Schemas first second) user d = option_map (λ said. Some said) (said_by second.now.schemas.items user d)

-- the code of a status is that of a request that was turned away
abbrev pub is_refusal : Option Data → Bool
is_refusal None = false
is_refusal (Some d) = option_map_or (λ code. code == 429) (whole_of d) false

-- the request was turned away
unfoldable pub was_turned_away : Data → Bool
was_turned_away d = is_refusal (option_and_then (get (codes "code")) (get (codes "responseStatus") d))

-- the instant at a key
unfoldable pub instant_at : List ℕ → Data → Option ℕ
instant_at key d = option_and_then instant_of (text_at key d)

-- what an annotation says, and no wait where there is none
abbrev pub wait_by : Option Data → Option ℕ
wait_by None = Some 0
wait_by (Some d) = option_and_then wait_of (as_str d)

-- the wait in the queue
unfoldable pub wait_at : Data → Option ℕ
wait_at d = wait_by (option_and_then (get (codes "apiserver.latency.k8s.io/apf-queue-wait")) (get (codes "annotations") d))

-- how long the request of an event ran that was received at this time, or its first fault; 0 if it was turned away
abbrev pub run_by : Bool → ℕ → ℕ → Data → Result ℕ AuditFault
run_by true line received d = Ok 0
run_by false line received d = do
  completed ← or_fault (BadStage line) (instant_at (codes "stageTimestamp") d)
  wait ← or_fault (BadWait line) (wait_at d)
  or_fault (BadRun line) (run_of received completed wait)

unfoldable pub run_at : ℕ → ℕ → Data → Result ℕ AuditFault
run_at line received d = run_by (was_turned_away d) line received d

-- what is taken of an event of this schema and flow that was received at this time, or its first fault. It takes one seat, as an audit log
-- does not say how many
unfoldable pub ran_at : ℕ → ℕ → Option ℕ → List ℕ → Option BesideSaid → Data → Result Event AuditFault
ran_at line received schema flow beside d = do
  runs_for ← run_at line received d
  Ok (record {
    line = line;
    audit_id = id_of d;
    received = received;
    turned_away = was_turned_away d;
    runs_for = runs_for;
    width = 1;
    schema = schema;
    flow = flow;
    beside = beside;
  })

-- what is taken of an event, none where it is not chosen, or its first fault
unfoldable pub taken_of : Choice → ℕ → Data → Result (Option Event) AuditFault
taken_of choice line d = do
  user ← or_fault (BadUser line) (user_of d)
  flow ← or_fault (BadNamespace line) (flow_of (distinguisher_by choice.by (schema_of choice.by user d)) user d)
  beside ← or_fault (BadNamespace line) (beside_of choice.by user d)
  received ← or_fault (BadReceived line) (instant_at (codes "requestReceivedTimestamp") d)
  if is_chosen choice user received then ran_at line received (schema_of choice.by user d) flow beside d >>= (λ e. Ok (Some e)) else Ok None

-- what is taken of the value of a line, by whether it is taken; nothing of one without a user's name
abbrev pub event_by : Choice → ℕ → Data → Option Bool → Result (Option Event) AuditFault
event_by choice line d None = Err (NotEvent line)
event_by choice line d (Some false) = Ok None
event_by choice line d (Some true) = if is_unnamed d then Ok None else taken_of choice line d

unfoldable pub event_of : Choice → ℕ → Data → Result (Option Event) AuditFault
event_of choice line d = event_by choice line d (is_taken d)

-- the event would be taken, but has no name of a user
abbrev pub nameless_by : Data → Option Bool → Bool
nameless_by d None = false
nameless_by d (Some false) = false
nameless_by d (Some true) = is_unnamed d

unfoldable pub is_nameless : Data → Bool
is_nameless d = nameless_by d (is_taken d)

-- what is taken of what a line gives
abbrev pub event_in : Outcome → Option Event
event_in (Chosen taken) = Some (event taken)
event_in Unnamed = None
event_in LeftOut = None
event_in Unfinished = None

-- the request that is chosen, if there is one
abbrev pub chosen_in : Outcome → List Taken
chosen_in (Chosen taken) = taken ∷ []
chosen_in Unnamed = []
chosen_in LeftOut = []
chosen_in Unfinished = []

abbrev pub is_without_name : Outcome → Bool
is_without_name (Chosen taken) = false
is_without_name Unnamed = true
is_without_name LeftOut = false
is_without_name Unfinished = false

abbrev pub is_still_written : Outcome → Bool
is_still_written (Chosen taken) = false
is_still_written Unnamed = false
is_still_written LeftOut = false
is_still_written Unfinished = true

-- the names of the user and of the flow are such that a trace can have them
pub record IsBesideInRange (beside : Beside) : Type 0 where
  pub user : length (string_bytes beside.user) ≤ max_name
  pub name : length (string_bytes beside.distinguisher) ≤ max_name

-- the id is short
abbrev pub IsIdInRange : Taken → Type 0
IsIdInRange taken = IfSome taken.audit_id (λ id. length (string_bytes id) ≤ max_id)

-- the run, the width and the names are such that a trace can have them, and the id is short
pub record IsTakenInRange (taken : Taken) : Type 0 where
  pub id : IsIdInRange taken
  pub run : taken.runs_for ≤ max_run
  pub width : (1 ≤ taken.width) × (taken.width ≤ max_width)
  pub name : length (string_bytes taken.distinguisher) ≤ max_name
  pub beside : IfSome taken.beside IsBesideInRange

abbrev pub IsInRangeIfChosen : Outcome → Type 0
IsInRangeIfChosen (Chosen taken) = IsTakenInRange taken
IsInRangeIfChosen Unnamed = Unit {0}
IsInRangeIfChosen LeftOut = Unit {0}
IsInRangeIfChosen Unfinished = Unit {0}

-- what is taken is of this line
abbrev pub IsOfLine : ℕ → Outcome → Type 0
IsOfLine line (Chosen taken) = taken.line ≡ line
IsOfLine line Unnamed = Unit {0}
IsOfLine line LeftOut = Unit {0}
IsOfLine line Unfinished = Unit {0}
