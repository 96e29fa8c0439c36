-- What a reader's fault says of the value or the line that it is shown with.
use Rattle.std.specs.Prelude.{◌≡◌, ℕ, ◌-◌, ◌<◌, ◌≤◌, ◌⊎◌, ⊤, List, false, Some, None, option_and_then, codes}
use Rattle.serde_json.specs.Data.{Data, Items, Members, no_members, member}
use Rattle.serde_json.specs.Find.{get, at, as_array, as_object}
use Rattle.apf_words.specs.Limits.{max_limit, max_requests}
use Rattle.apf_files.specs.ConfigFile.{name_of}
use Rattle.apf_files.specs.RequestsFile.{items_count, place_of}
use Rattle.apf_files.specs.ScriptFile.{command_of}
use Rattle.apf_files.specs.declared.config.ConfigFault.{ConfigFault}
use Rattle.apf_files.specs.declared.config.ConfigFault.TheVariants as config
use Rattle.apf_files.specs.declared.config.ConfigKey.TheVariants.{Limit}
use Rattle.apf_files.specs.declared.requests.RequestFault.{RequestFault}
use Rattle.apf_files.specs.declared.requests.RequestFault.TheVariants as request
use Rattle.apf_files.specs.declared.script.ScriptFault.{ScriptFault}
use Rattle.apf_files.specs.declared.script.ScriptFault.TheVariants as script
use Rattle.apf_explain.specs.declared.keys.Keys.{Keys}
use Rattle.apf_explain.specs.declared.keys.Keys.TheVariants.{OfConfig, OfRequest}
use Rattle.apf_explain.specs.declared.wanted.Wanted.{Wanted}
use Rattle.apf_explain.specs.declared.members.RequestKey.{RequestKey}
use Rattle.apf_explain.specs.declared.members.RequestKey.TheVariants.{Width, Work, Cancels, Closes}
use Rattle.apf_explain.specs.declared.flow.FlowFault.{FlowFault}
use Rattle.apf_explain.specs.Keys.{is_key_of, unknown_in}
use Rattle.apf_explain.specs.Wanted.{is_wanted, wanted_at, request_key_name, request_wanted}
use Rattle.apf_explain.specs.FlowFaults.{flow_fault_of}
use Rattle.apf_files.specs.ScriptLine.{line_of_number, number_in}

-- a value stands at the key, and is none that may stand there
abbrev pub IsUnwanted : List ℕ → Wanted → Data → Type 0
IsUnwanted key wanted d = (v : Data) × (get key d ≡ Some v) × (is_wanted wanted v ≡ false)

-- the key is one of the members'
abbrev pub IsKeyIn : List ℕ → Members → Type 0
IsKeyIn k no_members = ⊥
IsKeyIn k (member l d ms) = (k ≡ l) ⊎ IsKeyIn k ms

-- the value is an object with a key that is unknown, and the one that is named is such a key
abbrev pub NamesUnknown : Keys → Data → Type 0
NamesUnknown keys d =
    (ms : Members) × (as_object d ≡ Some ms) × ((k : List ℕ) × (unknown_in (is_key_of keys) ms ≡ Some k) × (is_key_of keys k ≡ false) × IsKeyIn k ms)

-- what the fault of a config says of its value
abbrev pub IsConfigShown : Data → ConfigFault → Type 0
IsConfigShown d config.NotJson = ⊥
IsConfigShown d config.NotObject = as_object d ≡ None
IsConfigShown d config.UnknownKey = NamesUnknown OfConfig d
IsConfigShown d config.Missing = get (name_of Limit) d ≡ None
IsConfigShown d (config.BadValue key) = IsUnwanted (name_of key) (wanted_at key) d
IsConfigShown d config.NoMemory = ⊥

-- something is wrong with the flow, and it is told
abbrev pub IsFlowTold : Data → Type 0
IsFlowTold d = (fault : FlowFault) × (flow_fault_of (get (codes "hash") d) (get (codes "schema") d) (get (codes "distinguisher") d) ≡ Some fault)

-- the value of a request's key may not stand there
abbrev pub IsKeyShown : RequestKey → ℕ → Data → Type 0
IsKeyShown key last d = IsUnwanted (request_key_name key) (request_wanted last key) d

-- what the fault of one request says of its value, where the last one has this number
abbrev pub IsMemberShown : ℕ → Data → RequestFault → Type 0
IsMemberShown last d request.NotJson = ⊥
IsMemberShown last d request.NotArray = ⊥
IsMemberShown last d request.TooMany = ⊥
IsMemberShown last d (request.NotObject i) = as_object d ≡ None
IsMemberShown last d (request.UnknownKey i) = NamesUnknown OfRequest d
IsMemberShown last d (request.BadFlow i) = IsFlowTold d
IsMemberShown last d (request.BadWidth i) = IsKeyShown Width last d
IsMemberShown last d (request.BadWork i) = IsKeyShown Work last d
IsMemberShown last d (request.BadCancels i) = IsKeyShown Cancels last d
IsMemberShown last d (request.BadCloses i) = IsKeyShown Closes last d
IsMemberShown last d request.NoMemory = ⊥

-- the request that the fault names is there, and has the fault
abbrev pub IsRequestShown : Data → RequestFault → Type 0
IsRequestShown d fault =
    (ds : Items) × (as_array d ≡ Some ds) × ((i : ℕ) × (place_of fault ≡ Some i)
    × ((m : Data) × (at i d ≡ Some m) × IsMemberShown (items_count ds - 1) m fault))

-- what the fault of a requests file says of its value
abbrev pub IsRequestsShown : Data → RequestFault → Type 0
IsRequestsShown d fault =
    ((fault ≡ request.NotArray) × (as_array d ≡ None))
    ⊎ (((fault ≡ request.TooMany) × ((ds : Items) × (as_array d ≡ Some ds) × (max_requests < items_count ds)))
    ⊎ IsRequestShown d fault)

-- the line of this number is there, and its command has a number
abbrev pub HasNumber : ℕ → List ℕ → ℕ → Type 0
HasNumber number bytes n = (line : List ℕ) × (line_of_number number bytes ≡ Some line) × (option_and_then number_in (command_of line) ≡ Some n)

-- what the fault of a script says of the line that it names
abbrev pub IsScriptShown : ℕ → List ℕ → ScriptFault → Type 0
IsScriptShown requests bytes (script.TooLong number) = ⊤
IsScriptShown requests bytes (script.Truncated number) = ⊤
IsScriptShown requests bytes (script.BadLine number) = (line : List ℕ) × (line_of_number number bytes ≡ Some line) × (command_of line ≡ None)
IsScriptShown requests bytes (script.UnknownRequest number) = (n : ℕ) × HasNumber number bytes n × (requests ≤ n)
IsScriptShown requests bytes script.NoMemory = ⊤
IsScriptShown requests bytes (script.BadLimit number) = (n : ℕ) × HasNumber number bytes n × ((n < 1) ⊎ (max_limit < n))
