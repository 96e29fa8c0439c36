-- Requests that were told, by their flows.
use Rattle.std.specs.Prelude.{◌≡◌, ℕ, ◌<◌, ◌≤◌, ◌⊎◌, Bool, true, nat_eq, nat_lt, cond, map, List, [], ◌∷◌, ◌++◌, fold, length, All, Contains, Option, if◌then◌else◌}
use Rattle.std.specs.List.{list_any, IsDistinct}
use Rattle.apf_times.specs.declared.window.Arrival.{Arrival}
use Rattle.apf_traces.specs.declared.request.FlowNames.{FlowNames}
use Rattle.apf_traces.specs.declared.request.TraceRequest.{TraceRequest}
use Rattle.apf_flows.specs.Names.{names_text}
use Rattle.apf_stream.specs.declared.ended.Ended.{Ended}
use Rattle.apf_rows.specs.Accounts.{AccountView, IsAccount}
use Rattle.apf_rows.specs.declared.row.Row.{Row}

-- the most flows that have a row of their own
abbrev pub max_flows : ℕ
max_flows = 100000

-- whether this is one of these flows
abbrev pub is_among : List ℕ → ℕ → Bool
is_among flows hash = list_any (nat_eq hash) flows

-- the flows with this one, if there is room for it
abbrev pub with_flow : List ℕ → ℕ → List ℕ
with_flow flows hash = if is_among flows hash then flows else if nat_lt (length flows) max_flows then flows ++ hash ∷ [] else flows

-- the flows of these requests that have a row of their own, by which came first
abbrev pub flows_of : List (Arrival TraceRequest) → List ℕ
flows_of came = fold (λ flows x. with_flow flows x.item.hash) [] came

-- those of these requests that are of this flow
abbrev pub of_flow : ℕ → List Ended → List Ended
of_flow hash [] = []
of_flow hash (e ∷ told) = cond (nat_eq e.hold.asked.hash hash) (e ∷ of_flow hash told) (of_flow hash told)

-- those that are of none of these flows
abbrev pub of_others : List ℕ → List Ended → List Ended
of_others flows [] = []
of_others flows (e ∷ told) = cond (is_among flows e.hold.asked.hash) (of_others flows told) (e ∷ of_others flows told)

-- What contracts see of rows.
pub record RowsView : Type 0 where
  -- the hashes of the flows that have a row of their own
  pub flows : List ℕ
  pub rows : List Row
  -- what the requests of all other flows came to
  pub others : AccountView
  -- what all requests came to
  pub all : AccountView

-- each flow's row is of its requests, and those of all others have one row together
pub record AreRows (told : List Ended) (v : RowsView) : Type 0 where
  pub each : All (λ (r : Row). IsAccount (of_flow r.hash told) r.account) v.rows
  pub others : IsAccount (of_others v.flows told) v.others
  pub all : IsAccount told v.all

-- this is the first line of this flow, with its names
pub record IsFirst (came : List (Arrival TraceRequest)) (hash line : ℕ) (names : Option FlowNames) : Type 0 where
  pub first : Arrival TraceRequest
  pub among : Contains came first
  pub flow : first.item.hash ≡ hash
  pub is_line : first.place.line ≡ line
  pub named : names_text names ≡ names_text first.item.names
  pub least : (x : Arrival TraceRequest) → Contains came x → x.item.hash ≡ hash → line ≤ x.place.line

-- the row has the first line of its flow, and its names
abbrev pub IsNamed : List (Arrival TraceRequest) → Row → Type 0
IsNamed came r = IsFirst came r.hash r.first r.names

-- these came: their flows have rows, as far as there is room, under the names of their first lines
pub record HaveMet (came : List (Arrival TraceRequest)) (v : RowsView) : Type 0 where
  pub flows : v.flows ≡ flows_of came
  pub named : All (IsNamed came) v.rows

-- a flow has a row, or there is no room for more
abbrev pub IsMet : RowsView → ℕ → Type 0
IsMet v hash = nat_lt (length v.flows) max_flows ≡ true → is_among v.flows hash ≡ true

-- a request came of the row's flow: the lower of two lines is the first one, and has the names
abbrev pub NamesRow : Arrival TraceRequest → Row → Row → Type 0
NamesRow x old new =
    ((x.place.line < old.first) × (new.first ≡ x.place.line) × (names_text new.names ≡ names_text x.item.names))
    ⊎ ((old.first ≤ x.place.line) × (new.first ≡ old.first) × (new.names ≡ old.names))

-- what rows keep: a row for each flow, and requests of other flows only where there is no room for more
pub record AreRowsKept (v : RowsView) : Type 0 where
  pub hashes : map (λ (r : Row). r.hash) v.rows ≡ v.flows
  pub few : length v.flows ≤ max_flows
  pub distinct : IsDistinct nat_eq v.flows
  pub full : length v.flows < max_flows → v.others.sums.requests ≡ 0
  pub below : All (λ (r : Row). r.account.sums.requests ≤ v.all.sums.requests) v.rows
  pub below_others : v.others.sums.requests ≤ v.all.sums.requests
