-- What a row is called, and the schema that all flows share.
use Rattle.std.specs.Prelude.{ℕ, ◌-◌, List, [], ◌∷◌, length, Bool, true, false, ◌==◌, if◌then◌else◌, Option, Some, None, slice_get, slice_index, string_bytes, bytes_eq}
use Rattle.std.specs.List.{list_all}
use Rattle.std.specs.Global.{Vec}
use Rattle.std.specs.Str.{chars}
use Rattle.apf_traces.specs.declared.request.FlowNames.{FlowNames}
use Rattle.apf_traces.specs.declared.request.TraceRequest.{TraceRequest}
use Rattle.apf_picture.specs.declared.label.Label.{Label}
use Rattle.apf_picture.specs.declared.label.Label.TheVariants.{Name, Names, Hash, Others}
use Rattle.apf_picture.specs.Ranks.{own_rows}

-- what a row is called: names as characters, the hash of its flow, or how many flows share it
pub data Called : Type 0 where
  By_name : (distinguisher : List ℕ) → Called
  By_names : (schema distinguisher : List ℕ) → Called
  By_hash : (hash : ℕ) → Called
  By_number : (flows : ℕ) → Called

abbrev pub called : Label → Called
called (Name distinguisher) = By_name distinguisher.items
called (Names schema distinguisher) = By_names schema.items distinguisher.items
called (Hash hash) = By_hash hash
called (Others flows) = By_number flows

-- what a flow is called that has these names, or this hash; where all flows share their schema it is left out
abbrev pub called_by : (is_shared : Bool) → Option FlowNames → ℕ → Called
called_by true (Some names) hash = By_name (chars (string_bytes names.distinguisher))
called_by false (Some names) hash = By_names (chars (string_bytes names.schema)) (chars (string_bytes names.distinguisher))
called_by true None hash = By_hash hash
called_by false None hash = By_hash hash

-- a flow has names, of which this is the schema
abbrev pub has_schema : List ℕ → Option FlowNames → Bool
has_schema schema None = false
has_schema schema (Some names) = bytes_eq (string_bytes names.schema) schema

abbrev pub names_in : Option TraceRequest → Option FlowNames
names_in None = None
names_in (Some request) = request.names

-- all flows have it, whose first requests these are
abbrev pub all_have : List TraceRequest → List ℕ → List ℕ → Bool
all_have trace schema firsts = list_all (λ first. has_schema schema (names_in (slice_get trace first))) firsts

-- the schema of the first flow, if all flows have it
abbrev pub shared_by : List TraceRequest → List ℕ → Option FlowNames → Option (List ℕ)
shared_by trace firsts None = None
shared_by trace firsts (Some names) = if all_have trace (string_bytes names.schema) firsts then Some (chars (string_bytes names.schema)) else None

abbrev pub shared_of : List TraceRequest → (firsts : List ℕ) → Option (List ℕ)
shared_of trace [] = None
shared_of trace (first ∷ firsts) = shared_by trace (first ∷ firsts) (names_in (slice_get trace first))

abbrev pub shown_schema : Option (Vec ℕ) → Option (List ℕ)
shown_schema None = None
shown_schema (Some schema) = Some schema.items

-- what a flow is called whose first request this is
abbrev pub called_first : (is_shared : Bool) → Option TraceRequest → Called
called_first is_shared None = By_number 0
called_first is_shared (Some first) = called_by is_shared first.names first.hash

-- what the row of this number is called: its flow's names, or the number of those that share it
abbrev pub label_at : List TraceRequest → (firsts own : List ℕ) → (is_shared : Bool) → (row : ℕ) → Called
label_at trace firsts own is_shared row =
    if row == own_rows then By_number (length firsts - own_rows)
    else called_first is_shared (slice_get trace (slice_index firsts (slice_index own row)))
