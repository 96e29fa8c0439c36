-- The lines that are written. None where nothing is stated of the text of a value that the line names.
use Rattle.std.specs.Prelude.{ℕ, ◌-◌, ◌++◌, List, [], nat_le, if◌then◌else◌, length, Option, Some, None, IfSome, option_and_then, codes, decimal}
use Rattle.std.specs.Fmt.{◌++?◌}
use Rattle.std.specs.Io.KnownBytes.{Appends}
use Rattle.serde_json.specs.Data.{Data, Items}
use Rattle.serde_json.specs.Find.{get, at, as_array}
use Rattle.apf_flow.specs.declared.fault.DealerFault.{DealerFault}
use Rattle.apf_flow.specs.declared.fault.DealerFault.TheVariants.{NotPositive, HandTooLarge, DeckTooLarge, TooMuchEntropy}
use Rattle.apf_words.specs.Limits.{max_limit, max_requests}
use Rattle.apf_files.specs.JsonFile.{value_of}
use Rattle.apf_files.specs.ConfigFile.{name_of}
use Rattle.apf_files.specs.RequestsFile.{items_count, place_of}
use Rattle.apf_files.specs.declared.config.ConfigFault.{ConfigFault}
use Rattle.apf_files.specs.declared.config.ConfigFault.TheVariants as config
use Rattle.apf_files.specs.declared.requests.RequestFault.{RequestFault}
use Rattle.apf_files.specs.declared.requests.RequestFault.TheVariants as request
use Rattle.apf_explain.specs.declared.place.Part.{Part}
use Rattle.apf_explain.specs.declared.place.Part.TheVariants.{Whole, Request, Line, Fault, Sent}
use Rattle.apf_explain.specs.declared.keys.Keys.{Keys}
use Rattle.apf_explain.specs.declared.keys.Keys.TheVariants.{OfConfig, OfRequest}
use Rattle.apf_explain.specs.declared.wanted.Wanted.{Wanted}
use Rattle.apf_explain.specs.declared.members.RequestKey.{RequestKey}
use Rattle.apf_explain.specs.declared.members.RequestKey.TheVariants.{Width, Work, Cancels, Closes}
use Rattle.apf_explain.specs.declared.flow.FlowFault.{FlowFault}
use Rattle.apf_explain.specs.declared.flow.FlowFault.TheVariants.{Missing, HashBesideSchema, HashBesideDistinguisher, HashBesideBoth, SchemaAlone, DistinguisherAlone, BadValue}
use Rattle.apf_explain.specs.Found.{quoted_text, found_text}
use Rattle.apf_explain.specs.Keys.{unknown_of, likeness_text, keys_text}
use Rattle.apf_explain.specs.Wanted.{wanted_text, wanted_at, request_key_name, request_wanted}
use Rattle.apf_explain.specs.FlowFaults.{flow_fault_of}
use Rattle.apf_explain.specs.Reasons.{IsSaid, mark_text}

-- what a line begins with, where the file has this name
abbrev pub place_text : List ℕ → Part → List ℕ
place_text name Whole = name ++ codes ": "
place_text name (Request number) = name ++ (codes ": request " ++ (decimal number ++ codes ": "))
place_text name (Line number) = name ++ (codes ":" ++ (decimal number ++ codes ": "))
place_text name (Fault number line) = name ++ (codes " fault " ++ (decimal number ++ (codes " at line " ++ (decimal line ++ codes ": "))))
place_text name (Sent line) = name ++ (codes " " ++ (decimal line ++ codes " "))

-- the value at a key may not stand there
abbrev pub unwanted_text : (place key : List ℕ) → Option Data → Wanted → Option (List ℕ)
unwanted_text place key found wanted =
    Some place ++? Some key ++? Some (codes " is ") ++? found_text found
    ++? Some (codes ": it must be ") ++? Some (wanted_text wanted) ++? Some (codes "\n")

-- another value stands where an object or an array should: what should stand there, and what does
abbrev pub misplaced_text : (place should : List ℕ) → Option Data → Option (List ℕ)
misplaced_text place should found = Some place ++? Some should ++? found_text found ++? Some (codes "\n")

-- a key of this value is unknown, and this one if it was found
abbrev pub unknown_line : List ℕ → Keys → Option Data → Option (List ℕ) → Option (List ℕ)
unknown_line place keys o None = Some place ++? Some (codes "a key is unknown: ") ++? Some (keys_text keys) ++? Some (codes "\n")
unknown_line place keys o (Some name) =
    if nat_le (length name) 64
    then Some place ++? Some (codes "the key ") ++? quoted_text (codes "a key") name ++? Some (codes " is unknown: ") ++? Some (likeness_text keys o name) ++? Some (keys_text keys) ++? Some (codes "\n")
    else Some place ++? quoted_text (codes "a key") name ++? Some (codes " is unknown: ") ++? Some (keys_text keys) ++? Some (codes "\n")

-- a key of this value is unknown
abbrev pub unknown_text : List ℕ → Keys → Option Data → Option (List ℕ)
unknown_text place keys o = unknown_line place keys o (unknown_of keys o)

-- a config without a limit, which is at most this
abbrev pub missing_text : List ℕ → ℕ → List ℕ
missing_text name most = name ++ (codes ": the key limit is missing: it must be a whole number from 1 to " ++ (decimal most ++ codes "\n"))

-- the fault of a config that is this value
abbrev pub config_text : List ℕ → Option Data → ConfigFault → Option (List ℕ)
config_text place o config.UnknownKey = unknown_text place OfConfig o
config_text place o (config.BadValue key) = unwanted_text place (name_of key) (option_and_then (get (name_of key)) o) (wanted_at key)
config_text place o fault = misplaced_text place (codes "a config is a JSON object, but this is ") o

-- what is wrong with a flow, and what one is
abbrev pub flow_line : (place wrong : List ℕ) → List ℕ
flow_line place wrong = place ++ (wrong ++ (codes "a flow is either hash alone, or both schema and distinguisher" ++ codes "\n"))

-- what is wrong with the flow of a request that is this value
abbrev pub flow_text : List ℕ → Option Data → Option FlowFault → Option (List ℕ)
flow_text place o None = Some (flow_line place (codes "the flow is bad: "))
flow_text place o (Some (BadValue key)) =
    unwanted_text place (request_key_name key) (option_and_then (get (request_key_name key)) o) (request_wanted 0 key)
flow_text place o (Some Missing) = Some (place ++ codes "the flow is missing: it is either hash alone, or both schema and distinguisher\n")
flow_text place o (Some HashBesideSchema) = Some (flow_line place (codes "hash stands beside schema: "))
flow_text place o (Some HashBesideDistinguisher) = Some (flow_line place (codes "hash stands beside distinguisher: "))
flow_text place o (Some HashBesideBoth) = Some (flow_line place (codes "hash stands beside schema and distinguisher: "))
flow_text place o (Some SchemaAlone) = Some (flow_line place (codes "schema stands without distinguisher: "))
flow_text place o (Some DistinguisherAlone) = Some (flow_line place (codes "distinguisher stands without schema: "))

-- the fault of the flow of a value, if it has one
abbrev pub fault_in : Data → Option FlowFault
fault_in d = flow_fault_of (get (codes "hash") d) (get (codes "schema") d) (get (codes "distinguisher") d)

-- what is wrong with the flow of a request that is this value, if it is there
abbrev pub bad_flow_text : List ℕ → Option Data → Option (List ℕ)
bad_flow_text place o = flow_text place o (option_and_then fault_in o)

-- the number of the last of these items
abbrev pub last_item : Option Items → ℕ
last_item None = 0
last_item (Some ds) = items_count ds - 1

-- the number of the last item, where there is one
abbrev pub last_number : Option Data → ℕ
last_number whole = last_item (option_and_then as_array whole)

-- the key whose value has the fault, where it is that of one key alone
abbrev pub key_of_fault : RequestFault → Option RequestKey
key_of_fault (request.BadWidth i) = Some Width
key_of_fault (request.BadWork i) = Some Work
key_of_fault (request.BadCancels i) = Some Cancels
key_of_fault (request.BadCloses i) = Some Closes
key_of_fault _ = None

-- the fault of one request, where it is not that of one key alone
abbrev pub member_text : List ℕ → Option Data → RequestFault → Option (List ℕ)
member_text place o (request.UnknownKey i) = unknown_text place OfRequest o
member_text place o (request.BadFlow i) = bad_flow_text place o
member_text place o fault = misplaced_text place (codes "a request is a JSON object, but this is ") o

-- the fault of one request: of this key, or another one; the last request of the file has this number
abbrev pub keyed_text : (place : List ℕ) (last : ℕ) → Option Data → RequestFault → Option RequestKey → Option (List ℕ)
keyed_text place last o fault None = member_text place o fault
keyed_text place last o fault (Some key) =
    unwanted_text place (request_key_name key) (option_and_then (get (request_key_name key)) o) (request_wanted last key)

-- the fault of the request of this number, of a file that is this value
abbrev pub request_text : List ℕ → Option Data → ℕ → RequestFault → Option (List ℕ)
request_text place whole number fault =
    keyed_text place (last_number whole) (option_and_then (at number) whole) fault (key_of_fault fault)

-- there are too many requests, and this many if they are an array
abbrev pub too_many_items : List ℕ → Option Items → List ℕ
too_many_items place None = place ++ (codes "there are too many requests: at most " ++ (decimal max_requests ++ codes " may be there\n"))
too_many_items place (Some ds) =
    place ++ (codes "there are " ++ (decimal (items_count ds) ++ (codes " requests: at most " ++ (decimal max_requests ++ codes " may be there\n"))))

-- there are too many requests, of a file that is this value
abbrev pub too_many_text : List ℕ → Option Data → List ℕ
too_many_text place whole = too_many_items place (option_and_then as_array whole)

-- the fault of the whole of a requests file that is this value
abbrev pub whole_text : List ℕ → Option Data → RequestFault → Option (List ℕ)
whole_text place whole request.TooMany = Some (too_many_text place whole)
whole_text place whole fault = misplaced_text place (codes "requests are a JSON array, but this is ") whole

-- the fault of this request of a file that is this value, or of the whole file
abbrev pub requests_at : List ℕ → Option Data → RequestFault → Option ℕ → Option (List ℕ)
requests_at name whole fault None = whole_text (place_text name Whole) whole fault
requests_at name whole fault (Some number) = request_text (place_text name (Request number)) whole number fault

-- the fault of a requests file that is this value
abbrev pub requests_text : List ℕ → Option Data → RequestFault → Option (List ℕ)
requests_text name whole fault = requests_at name whole fault (place_of fault)

-- the bytes of a file are no JSON from a line and column on, and why
abbrev pub stop_text : (name : List ℕ) (line column : ℕ) (why : List ℕ) → List ℕ
stop_text name line column why =
    name ++ (codes ":" ++ (decimal line ++ (codes ":" ++ (decimal column ++ (codes ": this is not JSON" ++ (why ++ codes "\n"))))))

-- bytes that are no JSON: the place at which the reader stopped, and what is known of why
abbrev pub IsStopLine : (name bytes : List ℕ) → Option (List ℕ) → Option (List ℕ) → Type 0
IsStopLine name bytes before after =
    (line : ℕ) × ((column : ℕ) × ((why : List ℕ) × IsSaid (mark_text bytes) why × Appends before after (stop_text name line column why)))

-- a file that is no JSON; of one that is, no place is named
abbrev pub SaysNotJson : (name bytes : List ℕ) → Option Data → Option (List ℕ) → Option (List ℕ) → Type 0
SaysNotJson name bytes None before after = IsStopLine name bytes before after
SaysNotJson name bytes (Some d) before after = Appends before after (name ++ codes ": this is not JSON\n")

-- what stands in the place of the objects of a cluster, where it is known
abbrev pub other_line : (name : List ℕ) → Option (List ℕ) → List ℕ
other_line name None = []
other_line name (Some kind) = name ++ (codes ": this is " ++ (kind ++ codes ": objects are one JSON object, as kubectl prints a list\n"))

-- the line of bytes that are no JSON was written
abbrev pub IsNotJsonLine : (name bytes : List ℕ) → Option (List ℕ) → Option (List ℕ) → Type 0
IsNotJsonLine name bytes before after = SaysNotJson name bytes (value_of bytes) before after

-- the line of the value that the bytes are was written, where its text is stated
abbrev pub IsReadLine : (Option Data → Option (List ℕ)) → List ℕ → Option (List ℕ) → Option (List ℕ) → Type 0
IsReadLine text bytes before after = IfSome (text (value_of bytes)) (Appends before after)

-- the line of a config's fault was written
abbrev pub IsConfigLine : (name bytes : List ℕ) → ConfigFault → Option (List ℕ) → Option (List ℕ) → Type 0
IsConfigLine name bytes config.NotJson before after = IsNotJsonLine name bytes before after
IsConfigLine name bytes config.Missing before after = Appends before after (missing_text name max_limit)
IsConfigLine name bytes config.NoMemory before after = ⊥
IsConfigLine name bytes fault before after = IsReadLine (λ o. config_text (place_text name Whole) o fault) bytes before after

-- the line of a requests file's fault was written
abbrev pub IsRequestsLine : (name bytes : List ℕ) → RequestFault → Option (List ℕ) → Option (List ℕ) → Type 0
IsRequestsLine name bytes request.NotJson before after = IsNotJsonLine name bytes before after
IsRequestsLine name bytes request.NoMemory before after = ⊥
IsRequestsLine name bytes fault before after = IsReadLine (λ o. requests_text name o fault) bytes before after

-- the two sizes of a dealer
abbrev pub sizes_text : List ℕ → (queues hand_size : ℕ) → List ℕ
sizes_text name queues hand_size = name ++ codes ": handSize is " ++ decimal hand_size ++ codes " and queues is " ++ decimal queues

-- a config whose hands can't be dealt
abbrev pub dealer_text : List ℕ → (queues hand_size : ℕ) → DealerFault → List ℕ
dealer_text name queues hand_size NotPositive =
    sizes_text name queues hand_size ++ codes ": both must be at least 1 (8 and 64 if absent)\n"
dealer_text name queues hand_size HandTooLarge =
    sizes_text name queues hand_size ++ codes ": a hand can't have more queues than there are (8 and 64 if absent)\n"
dealer_text name queues hand_size DeckTooLarge =
    name ++ codes ": queues is " ++ decimal queues ++ codes ": it must be at most 2 to the power of 26 (64 if absent)\n"
dealer_text name queues hand_size TooMuchEntropy =
    sizes_text name queues hand_size ++ codes ": queues to the power of handSize must be at most 2 to the power of 60 (8 and 64 if absent)\n"
