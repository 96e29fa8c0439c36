-- What the JSON value of a line of a trace says.
use Rattle.std.specs.Prelude.{◌≡◌, ℕ, ◌≤◌, List, Bool, ◌||◌, Option, Some, None, option_map, option_and_then, IfSome, Result, Ok, codes, bytes_eq, string_bytes}
use Rattle.serde_json.specs.Data.{Data}
use Rattle.serde_json.specs.Find.{get, as_object}
use Rattle.apf_words.specs.Limits.{max_cost, max_width}
use Rattle.apf_flow.specs.Flow.{flow_hash_of}
use Rattle.apf_files.specs.FirstFault.{◌>>=◌, or_fault}
use Rattle.apf_files.specs.JsonFile.{known_object, text_at, whole_in}
use Rattle.apf_files.specs.RequestsFile.{flow_of, number_or}
use Rattle.apf_times.specs.Limits.{max_arrival, max_run}
use Rattle.apf_traces.specs.declared.fault.TraceFault.{TraceFault}
use Rattle.apf_traces.specs.declared.fault.TraceFault.TheVariants.{NotObject, UnknownKey, BadArrival, BadRun, BadFlow, BadWidth, BadCost}
use Rattle.apf_traces.specs.declared.request.FlowNames.{FlowNames}
use Rattle.apf_traces.specs.declared.request.TraceRequest.{TraceRequest}

-- a request as a line says it, with the bytes of the flow's two names, schema and distinguisher, and its cost, where it has them
pub record Entry : Type 0 where
  pub arrives_at : ℕ
  pub runs_for : ℕ
  pub hash : ℕ
  pub names : Option (List ℕ × List ℕ)
  pub width : ℕ
  pub cost : Option ℕ

-- the bytes of a flow's names
abbrev pub texts : FlowNames → List ℕ × List ℕ
texts names = (string_bytes names.schema, string_bytes names.distinguisher)

-- what a request says
abbrev pub entry : TraceRequest → Entry
entry request = record {
  arrives_at = request.arrives_at;
  runs_for = request.runs_for;
  hash = request.hash;
  names = option_map texts request.names;
  width = request.width;
  cost = request.cost;
}

-- the name is that of a key
unfoldable pub is_key : List ℕ → Bool
is_key name =
    bytes_eq name (codes "arrivesAt") || bytes_eq name (codes "runsFor") || bytes_eq name (codes "schema")
    || bytes_eq name (codes "distinguisher") || bytes_eq name (codes "hash") || bytes_eq name (codes "width")
    || bytes_eq name (codes "cost")

-- the whole number from 0 to high at a key, which has to be there
unfoldable pub number_at : List ℕ → ℕ → Data → Option ℕ
number_at key high d = option_and_then (whole_in 0 high) (get key d)

-- both names, if both are there
abbrev pub both : Option (List ℕ) → Option (List ℕ) → Option (List ℕ × List ℕ)
both (Some schema) (Some distinguisher) = Some (schema, distinguisher)
both (Some schema) None = None
both None distinguisher = None

-- the names of the flow, where both are texts
abbrev pub names_of : Data → Option (List ℕ × List ℕ)
names_of d = both (text_at (codes "schema") d) (text_at (codes "distinguisher") d)

-- the request that the value of a line is, or its first fault: an object, of known keys alone, and then each key in order
unfoldable pub entry_of : ℕ → Data → Result Entry TraceFault
entry_of line d = do
  known ← known_object is_key (NotObject line) (UnknownKey line) (as_object d)
  arrives_at ← or_fault (BadArrival line) (number_at (codes "arrivesAt") max_arrival d)
  runs_for ← or_fault (BadRun line) (number_at (codes "runsFor") max_run d)
  hash ← or_fault (BadFlow line) (flow_of (get (codes "hash") d) (get (codes "schema") d) (get (codes "distinguisher") d))
  width ← or_fault (BadWidth line) (number_or 1 max_width 1 (get (codes "width") d))
  cost ← or_fault (BadCost line) (number_or 1 max_cost 1 (get (codes "cost") d))
  Ok (record {
    arrives_at = arrives_at;
    runs_for = runs_for;
    hash = hash;
    names = names_of d;
    width = width;
    cost = option_map (λ given. cost) (get (codes "cost") d);
  })

-- each number is in its range
abbrev pub IsRequestInRange : TraceRequest → Type 0
IsRequestInRange request =
    (request.arrives_at ≤ max_arrival) × (request.runs_for ≤ max_run)
    × (1 ≤ request.width) × (request.width ≤ max_width) × IfSome request.cost (λ cost. (1 ≤ cost) × (cost ≤ max_cost))

-- where the request has the names of its flow, its hash is theirs
abbrev pub IsNamed : TraceRequest → Type 0
IsNamed request =
    IfSome request.names (λ names. request.hash ≡ flow_hash_of (string_bytes names.schema) (string_bytes names.distinguisher))
