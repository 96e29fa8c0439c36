-- What has to stand at a key.
use Rattle.std.specs.Prelude.{ℕ, ◌+◌, List, ◌++◌, length, Bool, nat_le, if◌then◌else◌, Some, None, is_some, option_and_then, codes, decimal}
use Rattle.serde_json.specs.Data.{Data}
use Rattle.serde_json.specs.Find.{as_bool, as_str}
use Rattle.apf_words.specs.Limits.{max_limit, max_queues, max_queue_length, max_width}
use Rattle.apf_files.specs.JsonFile.{whole_in, whole_below}
use Rattle.apf_files.specs.ConfigFile.{max_hand_size, response_named}
use Rattle.apf_files.specs.RequestsFile.{max_work}
use Rattle.apf_files.specs.declared.config.ConfigKey.{ConfigKey}
use Rattle.apf_files.specs.declared.config.ConfigKey.TheVariants.{Limit, Queues, HandSize, QueueLengthLimit, LimitResponse}
use Rattle.apf_audit.specs.Times.{instant_of, wait_of}
use Rattle.apf_explain.specs.declared.members.RequestKey.{RequestKey}
use Rattle.apf_explain.specs.declared.members.RequestKey.TheVariants.{Schema, Distinguisher, Hash, Width, Work, Cancels, Closes}
use Rattle.apf_explain.specs.declared.wanted.Wanted.{Wanted}
use Rattle.apf_explain.specs.declared.wanted.Wanted.TheVariants.{Whole, Micros, Request, Response, Text, Name, Instant, Wait, Flag}

-- the value is one that may stand there
abbrev pub is_wanted : Wanted → Data → Bool
is_wanted (Whole low high) d = is_some (whole_in low high d)
is_wanted (Micros high) d = is_some (whole_in 0 high d)
is_wanted (Request last) d = is_some (whole_below (last + 1) d)
is_wanted Response d = is_some (option_and_then response_named (as_str d))
is_wanted Text d = is_some (as_str d)
is_wanted (Name most) d = is_some (option_and_then (λ text. if nat_le (length text) most then Some text else None) (as_str d))
is_wanted Instant d = is_some (option_and_then instant_of (as_str d))
is_wanted Wait d = is_some (option_and_then wait_of (as_str d))
is_wanted Flag d = is_some (as_bool d)

-- in words
abbrev pub wanted_text : Wanted → List ℕ
wanted_text (Whole low high) = codes "a whole number from " ++ decimal low ++ codes " to " ++ decimal high
wanted_text (Micros high) = codes "a whole number of microseconds from 0 to " ++ decimal high
wanted_text (Request last) = codes "the number of a request, 0 to " ++ decimal last
wanted_text Response = codes "\"Queue\" or \"Reject\""
wanted_text Text = codes "a text"
wanted_text (Name most) = codes "a text of at most " ++ decimal most ++ codes " bytes"
wanted_text Instant = codes "an instant from 1970 on, as \"2026-01-31T12:00:00.000000Z\""
wanted_text Wait = codes "a duration from 0 to 10000 s, as \"1.5s\""
wanted_text Flag = codes "true or false"

-- what has to stand at a key of a config
abbrev pub wanted_at : ConfigKey → Wanted
wanted_at Limit = Whole 1 max_limit
wanted_at Queues = Whole 1 max_queues
wanted_at HandSize = Whole 1 max_hand_size
wanted_at QueueLengthLimit = Whole 1 max_queue_length
wanted_at LimitResponse = Response

-- the name of a request's key
abbrev pub request_key_name : RequestKey → List ℕ
request_key_name Schema = codes "schema"
request_key_name Distinguisher = codes "distinguisher"
request_key_name Hash = codes "hash"
request_key_name Width = codes "width"
request_key_name Work = codes "work"
request_key_name Cancels = codes "cancels"
request_key_name Closes = codes "closes"

-- what has to stand at a key of a request, where the last one has this number
abbrev pub request_wanted : ℕ → RequestKey → Wanted
request_wanted last Schema = Text
request_wanted last Distinguisher = Text
request_wanted last Hash = Whole 0 18446744073709551615
request_wanted last Width = Whole 1 max_width
request_wanted last Work = Whole 0 max_work
request_wanted last Cancels = Request last
request_wanted last Closes = Flag
