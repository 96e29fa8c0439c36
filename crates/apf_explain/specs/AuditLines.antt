-- The lines that are written of an audit log's faults. None where nothing is stated of the text of a value that the line names.
use Rattle.std.specs.Prelude.{ℕ, List, ◌++◌, Bool, if◌then◌else◌, Option, Some, None, IfSome, is_some, option_and_then, codes, decimal}
use Rattle.std.specs.Fmt.{◌++?◌}
use Rattle.std.specs.Io.KnownBytes.{Appends}
use Rattle.serde_json.specs.Data.{Data}
use Rattle.serde_json.specs.Find.{get, as_object, as_str}
use Rattle.apf_files.specs.JsonFile.{value_of}
use Rattle.apf_times.specs.Limits.{max_arrival, max_run}
use Rattle.apf_audit.specs.AuditEvent.{max_name}
use Rattle.apf_audit.specs.AuditLog.{max_line}
use Rattle.apf_audit.specs.AuditFaults.{audit_fault_number}
use Rattle.apf_audit.specs.declared.fault.AuditFault.{AuditFault}
use Rattle.apf_audit.specs.declared.fault.AuditFault.TheVariants as audit
use Rattle.apf_explain.specs.declared.place.Part.TheVariants.{Fault}
use Rattle.apf_explain.specs.declared.wanted.Wanted.TheVariants.{Text, Name, Instant, Wait}
use Rattle.apf_explain.specs.Found.{found_text}
use Rattle.apf_explain.specs.Lines.{place_text, unwanted_text, misplaced_text}
use Rattle.apf_explain.specs.TraceLines.{required_text, too_long_text, IsColumnLine}

-- the value at a key, if there is one
abbrev pub found_at : List ℕ → Option Data → Option Data
found_at key o = option_and_then (get key) o

-- the value at a key is a text
abbrev pub is_text_at : List ℕ → Option Data → Bool
is_text_at key o = is_some (option_and_then as_str (found_at key o))

-- the value is an object
abbrev pub is_object : Option Data → Bool
is_object o = is_some (option_and_then as_object o)

-- a value that is no event
abbrev pub not_event_text : List ℕ → Option Data → Option (List ℕ)
not_event_text place o =
    if is_object o
    then (if is_text_at (codes "stage") o
    then required_text place (codes "verb") (found_at (codes "verb") o) Text
    else required_text place (codes "stage") (found_at (codes "stage") o) Text)
    else misplaced_text place (codes "an audit event is a JSON object, but this is ") o

-- the name of a user, who is impersonated if the event has such a one
abbrev pub user_text : List ℕ → Option Data → Option Data → Option (List ℕ)
user_text place o None =
    required_text place (codes "user.username") (found_at (codes "username") (found_at (codes "user") o)) (Name max_name)
user_text place o (Some impersonated) =
    required_text place (codes "impersonatedUser.username") (found_at (codes "username") (Some impersonated)) (Name max_name)

-- the namespace of the object of an event
abbrev pub namespace_found : Option Data → Option Data
namespace_found o = found_at (codes "namespace") (found_at (codes "objectRef") o)

-- the wait in the queue that an event says
abbrev pub wait_found : Option Data → Option Data
wait_found o = found_at (codes "apiserver.latency.k8s.io/apf-queue-wait") (found_at (codes "annotations") o)

-- a value, or that it is absent
abbrev pub value_text : Option Data → Option (List ℕ)
value_text None = Some (codes "absent")
value_text (Some d) = found_text (Some d)

-- a run that no trace can have, and what it is made of
abbrev pub bad_run_text : List ℕ → Option Data → Option (List ℕ)
bad_run_text place o =
    Some place ++? Some (codes "stageTimestamp is ") ++? value_text (found_at (codes "stageTimestamp") o)
    ++? Some (codes ", requestReceivedTimestamp is ") ++? value_text (found_at (codes "requestReceivedTimestamp") o)
    ++? Some (codes " and apf-queue-wait is ") ++? value_text (wait_found o)
    ++? Some (codes ": the run, which is the first less the others, must be from 0 to ") ++? Some (decimal max_run) ++? Some (codes " microseconds\n")

-- a request that arrives too late, this many microseconds after the first one
abbrev pub late_text : List ℕ → ℕ → List ℕ
late_text place after =
    place ++ (codes "this request arrives " ++ (decimal after
    ++ (codes " microseconds after the first one: at most " ++ (decimal max_arrival ++ codes " may be between them\n"))))

-- a request that was received before requests that were handed out
abbrev pub behind_text : List ℕ → Option Data → Option (List ℕ)
behind_text place o =
    Some place ++? Some (codes "requestReceivedTimestamp is ") ++? value_text (found_at (codes "requestReceivedTimestamp") o)
    ++? Some (codes ", and more than 131072 requests of lines before it were received later\n")

-- the fault of an event that is this value
abbrev pub event_text : List ℕ → Option Data → AuditFault → Option (List ℕ)
event_text place o (audit.BadUser n) = user_text place o (found_at (codes "impersonatedUser") o)
event_text place o (audit.BadNamespace n) = unwanted_text place (codes "objectRef.namespace") (namespace_found o) (Name max_name)
event_text place o (audit.BadReceived n) =
    required_text place (codes "requestReceivedTimestamp") (found_at (codes "requestReceivedTimestamp") o) Instant
event_text place o (audit.BadStage n) = required_text place (codes "stageTimestamp") (found_at (codes "stageTimestamp") o) Instant
event_text place o (audit.BadWait n) = unwanted_text place (codes "apf-queue-wait") (wait_found o) Wait
event_text place o (audit.BadRun n) = bad_run_text place o
event_text place o (audit.BadArrival n after) = Some (late_text place after)
event_text place o (audit.TooLate n) = behind_text place o
event_text place o fault = not_event_text place o

-- the fault of this line was written, behind its place
abbrev pub IsAuditLineAt : List ℕ → Option (List ℕ) → AuditFault → Option (List ℕ) → Option (List ℕ) → Type 0
IsAuditLineAt place line (audit.NotUtf8Json n) before after = IsColumnLine place line None (option_and_then value_of line) before after
IsAuditLineAt place line (audit.TooLong n) before after = Appends before after (too_long_text place max_line line)
IsAuditLineAt place line fault before after = IfSome (event_text place (option_and_then value_of line) fault) (Appends before after)

-- the fault of this line was written, behind the number of the line
abbrev pub IsPlacedEvent : Option (List ℕ) → AuditFault → Option ℕ → Option (List ℕ) → Option (List ℕ) → Type 0
IsPlacedEvent line fault None before after = ⊥
IsPlacedEvent line fault (Some number) before after =
    IsAuditLineAt (place_text (codes "apf: audit") (Fault (audit_fault_number fault) number)) line fault before after

-- the line of a log, unless it is too long, so that it was not kept whole
abbrev pub known_line : AuditFault → List ℕ → Option (List ℕ)
known_line (audit.TooLong n) line = None
known_line fault line = Some line
