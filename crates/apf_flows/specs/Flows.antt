-- Which requests of a trace are of one flow.
use Rattle.std.specs.Prelude.{◌≡◌, ◌≢◌, ℕ, ◌<◌, ◌≤◌, List, Bool, not, nat_eq, length, map, filter, take, slice_index}
use Rattle.std.specs.List.{list_any, range_with_len}
use Rattle.apf_traces.specs.declared.request.TraceRequest.{TraceRequest}

-- the hash of each request
abbrev pub hashes_of : List TraceRequest → List ℕ
hashes_of trace = map (λ request. request.hash) trace

-- whether no earlier request has the hash of this one
abbrev pub is_first : List ℕ → ℕ → Bool
is_first hashes i = not (list_any (nat_eq (slice_index hashes i)) (take i hashes))

-- the number of each flow's first request, in order
unfoldable pub firsts_of : List ℕ → List ℕ
firsts_of hashes = filter (is_first hashes) (range_with_len 0 (length hashes))

-- the first request of each flow and the flow of each request, where requests of one hash are one flow
pub record AreFlows (hashes firsts flows : List ℕ) : Type 0 where
  -- each request has a flow
  pub each : length flows ≡ length hashes
  pub flow : (i : ℕ) → i < length hashes → slice_index flows i < length firsts
  -- whose first request has its hash, and is the request itself or an earlier one
  pub same_hash : (i : ℕ) → i < length hashes → slice_index hashes (slice_index firsts (slice_index flows i)) ≡ slice_index hashes i
  pub not_later : (i : ℕ) → i < length hashes → slice_index firsts (slice_index flows i) ≤ i
  -- the first request of a flow is a request, and no earlier one has its hash
  pub request : (k : ℕ) → k < length firsts → slice_index firsts k < length hashes
  pub first : (k i : ℕ) → k < length firsts → i < slice_index firsts k → slice_index hashes i ≢ slice_index hashes (slice_index firsts k)
  -- the flows are in the order of their first requests
  pub ascending : (j k : ℕ) → j < k → k < length firsts → slice_index firsts j < slice_index firsts k
