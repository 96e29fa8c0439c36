-- What an arrival's object says.
use Rattle.std.specs.Prelude.{ℕ, ◌≤◌, List, option_map, IfSome, Result, Ok, codes}
use Rattle.serde_json.specs.Data.{Data}
use Rattle.serde_json.specs.Find.{get, as_object}
use Rattle.serde_json.specs.Read.{read}
use Rattle.apf_words.specs.Limits.{max_cost, max_width}
use Rattle.apf_files.specs.FirstFault.{◌>>=◌, or_fault}
use Rattle.apf_files.specs.JsonFile.{known_object}
use Rattle.apf_files.specs.RequestsFile.{flow_of, number_or}
use Rattle.apf_explain.specs.Keys.{is_arrival_key}
use Rattle.apf_protocol.specs.declared.arrival.Arrival.{Arrival}
use Rattle.apf_protocol.specs.declared.fault.FaultKind.{FaultKind}
use Rattle.apf_protocol.specs.declared.fault.FaultKind.TheVariants.{NotJson, UnknownKey, BadFlow, BadWidth, BadCost}

-- what the value of an object asks, or its first fault: an object, of known keys alone, and then each key in order
unfoldable pub asked_of : Data → Result Arrival FaultKind
asked_of d = do
  known ← known_object is_arrival_key NotJson UnknownKey (as_object d)
  hash ← or_fault BadFlow (flow_of (get (codes "hash") d) (get (codes "schema") d) (get (codes "distinguisher") d))
  width ← or_fault BadWidth (number_or 1 max_width 1 (get (codes "width") d))
  cost ← or_fault BadCost (number_or 1 max_cost 1 (get (codes "cost") d))
  Ok (record { ask = record { width = width; hash = hash }; cost = option_map (λ given. cost) (get (codes "cost") d) })

-- what the text of an object asks, or its first fault
unfoldable pub arrival_in : List ℕ → Result Arrival FaultKind
arrival_in object = or_fault NotJson (read object) >>= asked_of

-- each number is in its range
abbrev pub IsArrivalInRange : Arrival → Type 0
IsArrivalInRange arrival =
    (1 ≤ arrival.ask.width) × (arrival.ask.width ≤ max_width) × IfSome arrival.cost (λ cost. (1 ≤ cost) × (cost ≤ max_cost))
