-- What a config file says.
use Rattle.std.specs.Prelude.{ℕ, ◌≤◌, List, Bool, ◌||◌, if◌then◌else◌, Option, Some, None, option_and_then, Result, Ok, codes, bytes_eq}
use Rattle.serde_json.specs.Data.{Data}
use Rattle.serde_json.specs.Find.{get, as_str, as_object}
use Rattle.apf_words.specs.Limits.{max_limit, max_queues, max_queue_length}
use Rattle.apf_model.specs.declared.config.Config.{Config}
use Rattle.apf_model.specs.declared.response.Response.{Response}
use Rattle.apf_model.specs.declared.response.Response.TheVariants.{Queue, Reject}
use Rattle.apf_files.specs.FirstFault.{◌>>=◌, or_fault}
use Rattle.apf_files.specs.JsonFile.{known_object, whole_in, IsJudgementOf}
use Rattle.apf_files.specs.declared.config.ConfigKey.{ConfigKey}
use Rattle.apf_files.specs.declared.config.ConfigKey.TheVariants.{Limit, Queues, HandSize, QueueLengthLimit, LimitResponse}
use Rattle.apf_files.specs.declared.config.ConfigFault.{ConfigFault}
use Rattle.apf_files.specs.declared.config.ConfigFault.TheVariants.{NotJson, NotObject, UnknownKey, Missing, BadValue, NoMemory}

-- the fault's number
abbrev pub config_fault_number : ConfigFault → ℕ
config_fault_number NotJson = 1
config_fault_number NotObject = 2
config_fault_number UnknownKey = 3
config_fault_number Missing = 4
config_fault_number (BadValue key) = 5
config_fault_number NoMemory = 6

-- the key's name in a file
abbrev pub name_of : ConfigKey → List ℕ
name_of Limit = codes "limit"
name_of Queues = codes "queues"
name_of HandSize = codes "handSize"
name_of QueueLengthLimit = codes "queueLengthLimit"
name_of LimitResponse = codes "limitResponse"

-- the most queues of a hand
abbrev pub max_hand_size : ℕ
max_hand_size = 15

-- the name is that of a key
unfoldable pub is_key : List ℕ → Bool
is_key name =
    bytes_eq name (name_of Limit) || bytes_eq name (name_of Queues) || bytes_eq name (name_of HandSize)
    || bytes_eq name (name_of QueueLengthLimit) || bytes_eq name (name_of LimitResponse)

-- the number of a key: a whole number from 1 to most, or the default where the key is absent, or missing without one
abbrev pub number_or : ConfigKey → ℕ → Option ℕ → Option Data → Result ℕ ConfigFault
number_or key most default (Some d) = or_fault (BadValue key) (whole_in 1 most d)
number_or key most default None = or_fault Missing default

-- the number at a key
unfoldable pub number_at : ConfigKey → ℕ → Option ℕ → Data → Result ℕ ConfigFault
number_at key most default d = number_or key most default (get (name_of key) d)

-- the response that a text names
abbrev pub response_named : List ℕ → Option Response
response_named text =
    if bytes_eq text (codes "Queue") then Some Queue else (if bytes_eq text (codes "Reject") then Some Reject else None)

-- the response that a value names, or the default where the key is absent
abbrev pub response_or : Response → Option Data → Result Response ConfigFault
response_or default (Some d) = or_fault (BadValue LimitResponse) (option_and_then response_named (as_str d))
response_or default None = Ok default

-- the response at its key
unfoldable pub response_at : Response → Data → Result Response ConfigFault
response_at default d = response_or default (get (name_of LimitResponse) d)

-- the config that a value is, or its first fault: an object, of known keys alone, and then each key of the table in order
unfoldable pub config_of : Data → Result Config ConfigFault
config_of d = do
  known ← known_object is_key NotObject UnknownKey (as_object d)
  limit ← number_at Limit max_limit None d
  queues ← number_at Queues max_queues (Some 64) d
  hand_size ← number_at HandSize max_hand_size (Some 8) d
  queue_length_limit ← number_at QueueLengthLimit max_queue_length (Some 50) d
  limit_response ← response_at Queue d
  Ok (record {
    limit = limit;
    queues = queues;
    hand_size = hand_size;
    queue_length_limit = queue_length_limit;
    limit_response = limit_response;
  })

-- the answer that the bytes of a file have
abbrev pub IsConfigOf : List ℕ → Result Config ConfigFault → Type 0
IsConfigOf bytes answer = IsJudgementOf NotJson config_of bytes answer

-- each number is in its range
abbrev pub IsConfigInRange : Config → Type 0
IsConfigInRange config =
    (1 ≤ config.limit) × (config.limit ≤ max_limit) × (1 ≤ config.queues) × (config.queues ≤ max_queues)
    × (1 ≤ config.hand_size) × (config.hand_size ≤ max_hand_size)
    × (1 ≤ config.queue_length_limit) × (config.queue_length_limit ≤ max_queue_length)
