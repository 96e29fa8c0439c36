-- The keys of a file's objects.
use Rattle.std.specs.Prelude.{ℕ, List, [], Bool, true, false, ◌||◌, ◌&&◌, bytes_eq, if◌then◌else◌, Option, Some, None, option_and_then, codes}
use Rattle.serde_json.specs.Data.{Data, Members, no_members, member}
use Rattle.serde_json.specs.Find.{as_object}
use Rattle.apf_files.specs.ConfigFile.{is_key as is_config_key}
use Rattle.apf_files.specs.RequestsFile.{is_key as is_request_key}
use Rattle.apf_traces.specs.TraceValue.{is_key as is_trace_key}
use Rattle.apf_explain.specs.Kinds.{is_event}
use Rattle.apf_explain.specs.declared.keys.Keys.{Keys}
use Rattle.apf_explain.specs.declared.keys.Keys.TheVariants.{OfConfig, OfRequest, OfTrace, OfArrival}

-- the name is that of a key of what a level is sent with an arrival
unfoldable pub is_arrival_key : List ℕ → Bool
is_arrival_key name =
    bytes_eq name (codes "schema") || bytes_eq name (codes "distinguisher") || bytes_eq name (codes "hash")
    || bytes_eq name (codes "width") || bytes_eq name (codes "cost")

-- the name is that of a key
abbrev pub is_key_of : Keys → List ℕ → Bool
is_key_of OfConfig name = is_config_key name
is_key_of OfRequest name = is_request_key name
is_key_of OfTrace name = is_trace_key name
is_key_of OfArrival name = is_arrival_key name

-- the first member whose key is unknown
abbrev pub unknown_in : (List ℕ → Bool) → Members → Option (List ℕ)
unknown_in is_known no_members = None
unknown_in is_known (member k d ms) = if is_known k then unknown_in is_known ms else Some k

-- the unknown key of a value that is an object, and has one
abbrev pub unknown_of : Keys → Option Data → Option (List ℕ)
unknown_of keys o = option_and_then (λ d. option_and_then (unknown_in (is_key_of keys)) (as_object d)) o

-- what an object is that is no event, and has such a key in place of those of a file of this kind, in words
abbrev pub key_likeness : Keys → List ℕ → List ℕ
key_likeness OfConfig name =
    if bytes_eq name (codes "apiVersion") || bytes_eq name (codes "kind") then codes "this is an object as kubectl prints it: "
    else (if bytes_eq name (codes "arrivesAt") then codes "this is a request of a trace: " else [])
key_likeness OfRequest name = []
key_likeness OfTrace name =
    if bytes_eq name (codes "apiVersion") || bytes_eq name (codes "kind") then codes "this is an object as kubectl prints it: "
    else (if is_config_key name then codes "this is a config: " else [])
key_likeness OfArrival name = []

-- files of this kind are told from an audit log
abbrev pub may_be_event : Keys → Bool
may_be_event OfConfig = true
may_be_event OfRequest = false
may_be_event OfTrace = true
may_be_event OfArrival = false

-- what this value is, which has such a key in place of those of a file of this kind, in words
abbrev pub likeness_text : Keys → Option Data → List ℕ → List ℕ
likeness_text keys o name =
    if may_be_event keys && is_event o then codes "this is an event of an audit log: " else key_likeness keys name

-- which keys there are
abbrev pub keys_text : Keys → List ℕ
keys_text OfConfig = codes "a config has limit, queues, handSize, queueLengthLimit and limitResponse"
keys_text OfRequest = codes "a request has schema, distinguisher, hash, width, work, cancels and closes"
keys_text OfTrace = codes "a request of a trace has arrivesAt, runsFor, schema, distinguisher, hash, width and cost"
keys_text OfArrival = codes "an arrival has schema, distinguisher, hash, width and cost"
