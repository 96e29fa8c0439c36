-- What a requests file says.
use Rattle.std.specs.Prelude.{ℕ, ◌+◌, ◌<◌, ◌≤◌, List, [], Bool, false, ◌||◌, nat_le, if◌then◌else◌, Option, Some, None, option_map, IfSome, Result, Ok, Err, codes, bytes_eq}
use Rattle.serde_json.specs.Data.{Data, Items, no_items, item}
use Rattle.serde_json.specs.Find.{get, as_array, as_bool, as_object, as_str}
use Rattle.apf_words.specs.Limits.{max_requests, max_width}
use Rattle.apf_flow.specs.Flow.{flow_hash_of}
use Rattle.apf_files.specs.FirstFault.{◌>>=◌, or_fault, before}
use Rattle.apf_files.specs.JsonFile.{known_object, whole_in, whole_below, IsJudgementOf}
use Rattle.apf_files.specs.declared.requests.Request.{Request}
use Rattle.apf_files.specs.declared.requests.RequestFault.{RequestFault}
use Rattle.apf_files.specs.declared.requests.RequestFault.TheVariants.{NotJson, NotArray, TooMany, NotObject, UnknownKey, BadFlow, BadWidth, BadWork, BadCancels, BadCloses, NoMemory}

-- the fault's number
abbrev pub request_fault_number : RequestFault → ℕ
request_fault_number NotJson = 1
request_fault_number NotArray = 2
request_fault_number TooMany = 3
request_fault_number (NotObject i) = 4
request_fault_number (UnknownKey i) = 5
request_fault_number (BadFlow i) = 6
request_fault_number (BadWidth i) = 7
request_fault_number (BadWork i) = 8
request_fault_number (BadCancels i) = 9
request_fault_number (BadCloses i) = 10
request_fault_number NoMemory = 11

-- the number of the fault's request
abbrev pub place_of : RequestFault → Option ℕ
place_of NotJson = None
place_of NotArray = None
place_of TooMany = None
place_of (NotObject i) = Some i
place_of (UnknownKey i) = Some i
place_of (BadFlow i) = Some i
place_of (BadWidth i) = Some i
place_of (BadWork i) = Some i
place_of (BadCancels i) = Some i
place_of (BadCloses i) = Some i
place_of NoMemory = None

-- the most work of a request
abbrev pub max_work : ℕ
max_work = 1000000

-- the name is that of a key
unfoldable pub is_key : List ℕ → Bool
is_key name =
    bytes_eq name (codes "schema") || bytes_eq name (codes "distinguisher") || bytes_eq name (codes "hash")
    || bytes_eq name (codes "width") || bytes_eq name (codes "work") || bytes_eq name (codes "cancels")
    || bytes_eq name (codes "closes")

-- the hash of a flow's two names, if both are texts
abbrev pub hash_of_names : Option (List ℕ) → Option (List ℕ) → Option ℕ
hash_of_names (Some schema) (Some distinguisher) = Some (flow_hash_of schema distinguisher)
hash_of_names (Some schema) None = None
hash_of_names None distinguisher = None

-- the hash of a flow, by its hash alone or by both of schema and distinguisher alone
abbrev pub flow_of : Option Data → Option Data → Option Data → Option ℕ
flow_of (Some hash) None None = whole_in 0 18446744073709551615 hash
flow_of None (Some schema) (Some distinguisher) = hash_of_names (as_str schema) (as_str distinguisher)
flow_of (Some hash) None (Some distinguisher) = None
flow_of (Some hash) (Some schema) distinguisher = None
flow_of None None distinguisher = None
flow_of None (Some schema) None = None

-- the whole number from low to high that stands there, or the default where none does
abbrev pub number_or : ℕ → ℕ → ℕ → Option Data → Option ℕ
number_or low high default (Some d) = whole_in low high d
number_or low high default None = Some default

-- the request that is cancelled, one of this many, or none where none is named
abbrev pub cancels_of : ℕ → Option Data → Option (Option ℕ)
cancels_of count (Some d) = option_map Some (whole_below count d)
cancels_of count None = Some None

-- whether the level is closed
abbrev pub closes_of : Option Data → Option Bool
closes_of (Some d) = as_bool d
closes_of None = Some false

-- the request that member i of this many is, or its first fault: an object, of known keys alone, and then each key in order
unfoldable pub request_of : ℕ → ℕ → Data → Result Request RequestFault
request_of count i d = do
  known ← known_object is_key (NotObject i) (UnknownKey i) (as_object d)
  hash ← or_fault (BadFlow i) (flow_of (get (codes "hash") d) (get (codes "schema") d) (get (codes "distinguisher") d))
  width ← or_fault (BadWidth i) (number_or 1 max_width 1 (get (codes "width") d))
  work ← or_fault (BadWork i) (number_or 0 max_work 0 (get (codes "work") d))
  cancels ← or_fault (BadCancels i) (cancels_of count (get (codes "cancels") d))
  closes ← or_fault (BadCloses i) (closes_of (get (codes "closes") d))
  Ok (record { width = width; hash = hash; work = work; cancels = cancels; closes = closes })

-- how many items there are
abbrev pub items_count : Items → ℕ
items_count no_items = 0
items_count (item d ds) = items_count ds + 1

-- the requests that the items are, of which the first is member i of this many, or the first fault
abbrev pub requests_from : ℕ → ℕ → Items → Result (List Request) RequestFault
requests_from count i no_items = Ok []
requests_from count i (item d ds) = before (request_of count i d) (requests_from count (i + 1) ds)

-- the requests of an array, if it has not too many members
abbrev pub of_array : Option Items → Result (List Request) RequestFault
of_array None = Err NotArray
of_array (Some ds) = if nat_le (items_count ds) max_requests then requests_from (items_count ds) 0 ds else Err TooMany

-- the requests that a value is, or its first fault
unfoldable pub requests_of : Data → Result (List Request) RequestFault
requests_of d = of_array (as_array d)

-- the answer that the bytes of a file have
abbrev pub AreRequestsOf : List ℕ → Result (List Request) RequestFault → Type 0
AreRequestsOf bytes answer = IsJudgementOf NotJson requests_of bytes answer

-- each number is in its range, where there are this many requests
abbrev pub IsRequestInRange : ℕ → Request → Type 0
IsRequestInRange count request =
    (1 ≤ request.width) × (request.width ≤ max_width) × (request.work ≤ max_work) × IfSome request.cancels (λ n. n < count)
