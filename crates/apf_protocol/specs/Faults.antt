-- The faults of a line, and how they are written. None where nothing is stated of the text of a value that the line names.
use Rattle.std.specs.Prelude.{◌≡◌, ℕ, List, ◌++◌, ⊤, Option, Some, None, option_and_then, codes, decimal}
use Rattle.serde_json.specs.Data.{Data}
use Rattle.serde_json.specs.Find.{get}
use Rattle.serde_json.specs.Read.{read}
use Rattle.serde_json.specs.View.{view}
use Rattle.apf_words.specs.Limits.{max_cost, max_width}
use Rattle.apf_explain.specs.declared.place.Part.TheVariants.{Sent}
use Rattle.apf_explain.specs.declared.keys.Keys.TheVariants.{OfArrival}
use Rattle.apf_explain.specs.declared.wanted.Wanted.TheVariants.{Whole}
use Rattle.apf_explain.specs.Lines.{place_text, unwanted_text, unknown_text, bad_flow_text}
use Rattle.apf_explain.specs.Reasons.{IsSaid, line_mark_text}
use Rattle.apf_explain.specs.TraceLines.{column_text}
use Rattle.apf_protocol.specs.declared.fault.FaultKind.{FaultKind}
use Rattle.apf_protocol.specs.declared.fault.FaultKind.TheVariants.{TooLong, BadLine, BadNumber, IsThere, IsNotThere, NoMemory, NotJson, UnknownKey, BadFlow, BadWidth, BadCost, BadTime, BadLimit, UsedUp, Truncated}
use Rattle.apf_protocol.specs.declared.fault.Found.{Found}
use Rattle.apf_protocol.specs.declared.fault.Found.TheVariants.{Nothing, Column, Object}

-- a fault in a few words
abbrev pub kind_text : FaultKind → List ℕ
kind_text TooLong = codes "line too long"
kind_text BadLine = codes "bad line"
kind_text BadNumber = codes "bad number"
kind_text (IsThere number) = decimal number ++ codes " is there"
kind_text (IsNotThere number) = decimal number ++ codes " is not there"
kind_text NoMemory = codes "out of memory"
kind_text NotJson = codes "this is not JSON"
kind_text UnknownKey = codes "a key is unknown"
kind_text BadFlow = codes "the flow is bad"
kind_text BadWidth = codes "the width is bad"
kind_text BadCost = codes "the cost is bad"
kind_text BadTime = codes "bad time"
kind_text BadLimit = codes "bad limit"
kind_text (UsedUp number) = decimal number ++ codes " is used up"
kind_text Truncated = codes "truncated"

-- the value of an object that was found
abbrev pub value_in : Found → Option Data
value_in Nothing = None
value_in (Column column why) = None
value_in (Object value) = Some (view value)

-- what is wrong with an object that is this value, or else the fault in a few words, behind the place
abbrev pub value_text : List ℕ → Option Data → FaultKind → Option (List ℕ)
value_text place o UnknownKey = unknown_text place OfArrival o
value_text place o BadFlow = bad_flow_text place o
value_text place o BadWidth = unwanted_text place (codes "width") (option_and_then (get (codes "width")) o) (Whole 1 max_width)
value_text place o BadCost = unwanted_text place (codes "cost") (option_and_then (get (codes "cost")) o) (Whole 1 max_cost)
value_text place o kind = Some (place ++ (kind_text kind ++ codes "\n"))

-- an object's text is no JSON: from which column on, and what is known of why
abbrev pub not_json_text : List ℕ → Found → List ℕ
not_json_text place (Column column why) = column_text place column why.now
not_json_text place Nothing = place ++ codes "this is not JSON\n"
not_json_text place (Object value) = place ++ codes "this is not JSON\n"

-- the fault, behind the place
abbrev pub text_behind : List ℕ → FaultKind → Found → Option (List ℕ)
text_behind place NotJson found = Some (not_json_text place found)
text_behind place kind found = value_text place (value_in found) kind

-- the line of the fault that the line of this number has
abbrev pub fault_text : ℕ → FaultKind → Found → Option (List ℕ)
fault_text line kind found = text_behind (place_text (codes "fault") (Sent line)) kind found

-- the value of this text was found
abbrev pub IsValueFound : List ℕ → Found → Type 0
IsValueFound object Nothing = ⊥
IsValueFound object (Column column why) = ⊥
IsValueFound object (Object value) = read object ≡ Some (view value)

-- what stops this text from being a JSON object was found: why, as it is said of how the text begins, or another value
abbrev pub IsStopFound : List ℕ → Found → Type 0
IsStopFound object Nothing = ⊥
IsStopFound object (Column column why) = IsSaid (line_mark_text object) why.now
IsStopFound object (Object value) = read object ≡ Some (view value)

-- what the fault of an object tells was found in its text
abbrev pub IsFoundIn : List ℕ → FaultKind → Found → Type 0
IsFoundIn object NotJson found = IsStopFound object found
IsFoundIn object UnknownKey found = IsValueFound object found
IsFoundIn object BadFlow found = IsValueFound object found
IsFoundIn object BadWidth found = IsValueFound object found
IsFoundIn object BadCost found = IsValueFound object found
IsFoundIn object kind found = ⊤
