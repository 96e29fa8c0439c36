-- The hands of the flows of a trace, and who shares their queues.
use Rattle.std.specs.Prelude.{ℕ, ◌≢◌, ◌-◌, List, [], ◌++◌, Bool, false, not, ◌&&◌, ◌==◌, nat_lt, if◌then◌else◌, length, map, filter, take, count_by, Option, Some, None, bytes_eq, codes, decimal, string_bytes}
use Rattle.std.specs.List.{flat_map, list_any, list_all}
use Rattle.apf_model.specs.declared.response.Response.{Response}
use Rattle.apf_model.specs.declared.response.Response.TheVariants.{Queue, Reject}
use Rattle.apf_model.specs.declared.config.Config.{Config}
use Rattle.apf_flow.specs.Sizes.{Sizes}
use Rattle.apf_flow.specs.Deal.{hand_of}
use Rattle.apf_flow.specs.Fault.{fault_of}
use Rattle.apf_flow.specs.declared.fault.DealerFault.{DealerFault}
use Rattle.apf_times.specs.declared.window.Arrival.{Arrival}
use Rattle.apf_traces.specs.declared.request.FlowNames.{FlowNames}
use Rattle.apf_traces.specs.declared.request.TraceRequest.{TraceRequest}
use Rattle.apf_hands.specs.declared.hands.HandsFault.{HandsFault}
use Rattle.apf_hands.specs.declared.hands.HandsFault.TheVariants.{Dealer}
use Rattle.apf_flows.specs.Names.{hash_text, names_text, of_names_text}

-- the sizes that a level with this response deals hands by: one that rejects deals none
abbrev pub sizes_by : Response → Config → Option Sizes
sizes_by Queue config = Some (record { deck = config.queues; hand = config.hand_size })
sizes_by Reject config = None

abbrev pub sizes_of : Config → Option Sizes
sizes_of config = sizes_by config.limit_response config

-- why hands of these sizes cannot be dealt, if there is a reason
abbrev pub fault_by : Option Sizes → Option DealerFault
fault_by None = None
fault_by (Some sizes) = fault_of sizes.deck sizes.hand

-- the hand that a hash is dealt
abbrev pub hand_by : Option Sizes → ℕ → List ℕ
hand_by None hash = []
hand_by (Some sizes) hash = hand_of sizes hash

-- a flow with its hand
pub record Flow : Type 0 where
  pub hash : ℕ
  pub names : Option FlowNames
  pub hand : List ℕ

-- the flow of a first request
abbrev pub dealt_by : Option Sizes → TraceRequest → Flow
dealt_by sizes first = record { hash = first.hash; names = first.names; hand = hand_by sizes first.hash }

-- the flows whose first requests these are
abbrev pub flows_in : Option Sizes → List (Arrival TraceRequest) → List Flow
flows_in sizes firsts = map (λ first. dealt_by sizes first.item) firsts

-- the hand has the queue
abbrev pub holds : List ℕ → ℕ → Bool
holds hand queue = list_any (λ other. other == queue) hand

-- some queue of the hand is in the other one
abbrev pub shares_one : (hand other : List ℕ) → Bool
shares_one hand other = list_any (holds other) hand

-- each queue of the hand is in the other one
abbrev pub shares_all : (hand other : List ℕ) → Bool
shares_all hand other = list_all (holds other) hand

-- the queues of the hand that are in the other one
abbrev pub shared : (hand other : List ℕ) → List ℕ
shared hand other = filter (holds other) hand

-- queues, each with a space before it
abbrev pub queues_text : List ℕ → List ℕ
queues_text queues = flat_map (λ queue. codes " " ++ decimal queue) queues

-- the line of a flow and its hand
unfoldable pub hand_text : Flow → List ℕ
hand_text flow = codes "flow " ++ hash_text flow.hash ++ codes " hand" ++ queues_text flow.hand ++ of_names_text flow.names ++ codes "\n"

-- the other one is another flow, which shares a queue
abbrev pub shares : (flow other : Flow) → Bool
shares flow other = not (flow.hash == other.hash) && shares_one flow.hand other.hand

-- the line of another flow that shares a queue
unfoldable pub share_line : (flow other : Flow) → List ℕ
share_line flow other =
    codes "  shares" ++ queues_text (shared flow.hand other.hand) ++ codes " with " ++ hash_text other.hash ++ names_text other.names ++ codes "\n"

abbrev pub share_text : (flow other : Flow) → List ℕ
share_text flow other = if shares flow other then share_line flow other else []

-- the lines of all flows that share a queue
unfoldable pub shares_text : Flow → List Flow → List ℕ
shares_text flow flows = flat_map (share_text flow) flows

-- the other one is another flow, whose hand holds all queues of the first, which has some
abbrev pub covers : (flow other : Flow) → Bool
covers flow other = not (flow.hash == other.hash) && nat_lt 0 (length flow.hand) && shares_all flow.hand other.hand

-- how many of the flows hold a queue
abbrev pub holders_of : List Flow → ℕ → ℕ
holders_of flows queue = count_by (λ flow. holds flow.hand queue) flows

-- how many hold a queue of a flow beside that flow, which stands among the flows once
abbrev pub sharers_of : List Flow → ℕ → ℕ
sharers_of flows queue = holders_of flows queue - 1

-- the line of a queue of a flow that others hold too, and nothing of one that it has alone
unfoldable pub sharers_line : ℕ → ℕ → List ℕ
sharers_line queue sharers = codes "  shares " ++ decimal queue ++ codes " with " ++ decimal sharers ++ codes " flows\n"

abbrev pub sharers_text : List Flow → ℕ → List ℕ
sharers_text flows queue = if nat_lt 0 (sharers_of flows queue) then sharers_line queue (sharers_of flows queue) else []

-- the lines of the queues of a hand
abbrev pub all_sharers_text : List Flow → List ℕ → List ℕ
all_sharers_text flows hand = flat_map (sharers_text flows) hand

-- the hashes of the other flows whose hands hold all queues of this one's
abbrev pub covering : Flow → List Flow → List ℕ
covering flow flows = map (λ other. other.hash) (filter (covers flow) flows)

-- this many flows that cover a hand are named
abbrev pub most_named : ℕ
most_named = 10

-- hashes, each with a space before it
abbrev pub named_text : List ℕ → List ℕ
named_text hashes = flat_map (λ hash. codes " " ++ hash_text hash) hashes

-- the line that names flows that cover a hand
unfoldable pub named_line : List ℕ → List ℕ
named_line hashes = codes "  covered by" ++ named_text hashes ++ codes "\n"

-- the line of how many more there are
unfoldable pub more_line : ℕ → List ℕ
more_line count = codes "  covered by " ++ decimal count ++ codes " more\n"

-- the first of the flows that cover a hand, and how many more there are
unfoldable pub covering_text : List ℕ → List ℕ
covering_text hashes = (if nat_lt 0 (length hashes) then named_line (take most_named hashes) else [])
    ++ (if nat_lt most_named (length hashes) then more_line (length hashes - most_named) else [])

-- the line of all flows that cover a hand, and nothing where there are none
unfoldable pub covers_text : List ℕ → List ℕ
covers_text hashes = if nat_lt 0 (length hashes) then named_line hashes else []

-- the lines of a flow: its hand, its shared queues, and who covers it
abbrev pub flow_text : List Flow → Flow → List ℕ
flow_text flows flow = hand_text flow ++ all_sharers_text flows flow.hand ++ covering_text (covering flow flows)

-- the lines of all flows
abbrev pub hands_text : List Flow → List ℕ
hands_text flows = flat_map (flow_text flows) flows

-- the lines of one flow: its hand, each other flow that shares a queue, and all that cover it
abbrev pub whole_text : List Flow → Flow → List ℕ
whole_text flows flow = hand_text flow ++ shares_text flow flows ++ covers_text (covering flow flows)

-- the flow's first request has names, of which this is the distinguisher
abbrev pub has_distinguisher : List ℕ → Option FlowNames → Bool
has_distinguisher distinguisher None = false
has_distinguisher distinguisher (Some names) = bytes_eq (string_bytes names.distinguisher) distinguisher

abbrev pub is_named : List ℕ → Flow → Bool
is_named distinguisher flow = has_distinguisher distinguisher flow.names

-- the lines of those among some flows that have this distinguisher, where these are all flows
abbrev pub named_whole_text : List ℕ → List Flow → Flow → List ℕ
named_whole_text distinguisher flows flow = if is_named distinguisher flow then whole_text flows flow else []

abbrev pub part_text : List ℕ → List Flow → List Flow → List ℕ
part_text distinguisher flows some = flat_map (named_whole_text distinguisher flows) some

-- it is no fault of the dealer's
abbrev pub IsNoDealer : HandsFault → Type 0
IsNoDealer told = (fault : DealerFault) → told ≢ Dealer fault
