-- The first request of each flow, where requests of one hash are one flow.
use Rattle.std.specs.Prelude.{◌≡◌, ℕ, ◌≤◌, Bool, true, nat_eq, nat_lt, List, map, All, Contains, Option, Ok}
use Rattle.std.specs.List.{IsDistinct, list_any}
use Rattle.std.specs.List.Sorted.{IsSortedBy}
use Rattle.std.specs.Io.KnownBytes.{Consumes, IsAtEnd}
use Rattle.apf_times.specs.declared.window.Arrival.{Arrival}
use Rattle.apf_traces.specs.TraceValue.{entry}
use Rattle.apf_traces.specs.declared.request.TraceRequest.{TraceRequest}
use Rattle.apf_trace_reader.specs.Reading.{HasRead, arrivals_from}
use Rattle.apf_trace_reader.specs.Timely.{requests_of}
use Rattle.apf_trace_reader.specs.Views.{ReaderView}

-- the flow of a request that came
abbrev pub hash_of : Arrival TraceRequest → ℕ
hash_of x = x.item.hash

-- no request of this flow that came is of a lower line
abbrev pub IsLeast : List (Arrival TraceRequest) → Arrival TraceRequest → Type 0
IsLeast came first = (x : Arrival TraceRequest) → Contains came x → hash_of x ≡ hash_of first → first.place.line ≤ x.place.line

-- these are the first requests of the flows of those that came
pub record AreFirst (came firsts : List (Arrival TraceRequest)) : Type 0 where
  pub among : All (Contains came) firsts
  pub least : All (IsLeast came) firsts
  -- there is one of each flow
  pub each : (x : Arrival TraceRequest) → Contains came x → list_any (nat_eq (hash_of x)) (map hash_of firsts) ≡ true

-- first requests of flows
abbrev pub FirstRequests : Type 0
FirstRequests = List (Arrival TraceRequest)

-- no two are of one flow
pub record HaveDistinctFlows (firsts : List (Arrival TraceRequest)) : Type 0 where
  pub distinct : IsDistinct nat_eq (map hash_of firsts)

-- the lower line comes first
abbrev pub comes_first : Arrival TraceRequest → Arrival TraceRequest → Bool
comes_first a b = nat_lt a.place.line b.place.line

-- What contracts see of the flows of those that came.
pub record MeetingView : Type 0 where
  -- the hash of each flow, and its first request
  pub flows : List ℕ
  pub firsts : List (Arrival TraceRequest)

-- what is kept while requests come: the hash of each flow, at its place
pub record IsMeeting (flows : List ℕ) (firsts : List (Arrival TraceRequest)) : Type 0 where
  pub hashes : map hash_of firsts ≡ flows
  pub distinct : IsDistinct nat_eq flows

-- the input gave these bytes so far, of which these requests were handed out, and these are the first of their flows
pub record HasMet (was left : Option (List ℕ)) (firsts : List (Arrival TraceRequest)) (v : ReaderView) : Type 0 where
  pub bytes : List ℕ
  pub given : Consumes was left bytes
  pub came : List (Arrival TraceRequest)
  pub read : HasRead bytes came left v
  pub first : AreFirst came firsts

-- the input was read to its end, and all its lines are good: these are the first requests of the flows of its lines, of which
-- the first has number 1
pub record HaveCome (size : ℕ) (was left : Option (List ℕ)) (firsts : List (Arrival TraceRequest)) : Type 0 where
  pub bytes : List ℕ
  pub given : Consumes was left bytes
  pub end : IsAtEnd left
  pub requests : List TraceRequest
  pub are : requests_of size bytes ≡ Ok (map entry requests)
  pub first : AreFirst (arrivals_from 1 requests) firsts

-- the same, one of each flow, in the order of their lines
pub record HasFirsts (size : ℕ) (was left : Option (List ℕ)) (firsts : List (Arrival TraceRequest)) : Type 0 where
  pub come : HaveCome size was left firsts
  pub distinct : IsDistinct nat_eq (map hash_of firsts)
  pub order : IsSortedBy comes_first firsts
