-- The flows of two clusters in pairs, in the order in which they are told.
use Rattle.std.specs.Prelude.{ℕ, suc, ◌-◌, ◌^◌, Bool, true, false, not, ◌&&◌, ◌||◌, ◌==◌, nat_eq, nat_lt, List, [], ◌∷◌, ◌++◌, Option, Some, None, option_map, option_and_then, slice_get, if◌then◌else◌, bytes_eq, string_bytes}
use Rattle.std.specs.List.Sorted.{IsPermutation, IsSortedBy}
use Rattle.apf_objects.specs.Levels.{LevelSaid}
use Rattle.apf_objects.specs.Rules.{Text}
use Rattle.apf_traces.specs.declared.request.FlowNames.{FlowNames}
use Rattle.apf_matching.specs.First.{place_from}
use Rattle.apf_rows.specs.Comparisons.{distance, longest}
use Rattle.apf_rows.specs.declared.sums.Sums.{Sums}
use Rattle.apf_rows.specs.declared.table.Line.{Line}
use Rattle.apf_cluster_tables.specs.Flows.{is_told, lost}
use Rattle.apf_cluster_tables.specs.Sides.{SideSaid}
use Rattle.apf_cluster_tables.specs.declared.level_table.LevelTable.{LevelTable}
use Rattle.apf_cluster_tables.specs.declared.flows.Flow.{Flow}
use Rattle.apf_cluster_tables.specs.declared.flows.FlowAt.{FlowAt}
use Rattle.apf_cluster_tables.specs.declared.pairs.FlowPair.{FlowPair}

-- a flow of a cluster: where it stands, the name of its level, and its line
pub record FlowSaid : Type 0 where
  pub at : FlowAt
  pub of : Text
  pub line : Line

-- what the code holds
abbrev pub flow_view : Flow → FlowSaid
flow_view f = record { at = f.at; of = f.of.now; line = f.line.now }

-- the flows of these lines of a level of this name and number, of which the first has this number
abbrev pub flows_from : Text → (level flow : ℕ) → List Line → List FlowSaid
flows_from name level flow [] = []
flows_from name level flow (l ∷ lines) = record { at = record { level = level; flow = flow }; of = name; line = l } ∷ flows_from name level (suc flow) lines

-- the flows of these lines of a level, if it is there
abbrev pub flows_by : Option LevelSaid → ℕ → List Line → List FlowSaid
flows_by None level lines = []
flows_by (Some l) level lines = flows_from l.name level 0 lines

-- the flows of these tables, of which the first has this number
abbrev pub all_flows : List LevelSaid → ℕ → List LevelTable → List FlowSaid
all_flows levels level [] = []
all_flows levels level (t ∷ tables) = flows_by (slice_get levels level) level t.table.lines.items ++ all_flows levels (suc level) tables

-- the flows of a cluster
abbrev pub flows_of : SideSaid → List FlowSaid
flows_of side = all_flows side.levels 0 side.tables

-- what a flow is known by: its two names; or by its level, if it has none
pub record Key : Type 0 where
  pub named : Bool
  pub one : Text
  pub two : Text

abbrev pub key_by : Text → Option FlowNames → Key
key_by level None = record { named = false; one = level; two = [] }
key_by level (Some names) = record { named = true; one = string_bytes names.schema; two = string_bytes names.distinguisher }

abbrev pub key_of : FlowSaid → Key
key_of f = key_by f.of f.line.names

-- both are true, or neither is
abbrev pub are_alike : Bool → Bool → Bool
are_alike true b = b
are_alike false b = not b

-- two keys are the same
abbrev pub is_same : Key → Key → Bool
is_same a b = (are_alike a.named b.named && bytes_eq a.one b.one) && bytes_eq a.two b.two

-- the place of the first flow of this key
abbrev pub place_of : Key → List FlowSaid → Option ℕ
place_of key flows = place_from (λ (f : FlowSaid). is_same (key_of f) key) 0 flows

-- the number is this one
abbrev pub is_number : Option ℕ → ℕ → Bool
is_number None i = false
is_number (Some n) i = nat_eq n i

-- The partner of the flow that has this place among its own, as a place among the others: the first of its key, where it is itself the first of its key
abbrev pub partner_of : (own others : List FlowSaid) → ℕ → FlowSaid → Option ℕ
partner_of own others i f = if is_number (place_of (key_of f) own) i then place_of (key_of f) others else None

abbrev pub sums_of : FlowSaid → Sums
sums_of f = f.line.figures.sums

-- a request of the flow waited, was rejected or gave up, if the flow is there
abbrev pub is_told_of : Option FlowSaid → Bool
is_told_of None = false
is_told_of (Some f) = is_told (sums_of f)

abbrev pub longest_of : Option FlowSaid → ℕ
longest_of f = longest (option_map (λ (f : FlowSaid). f.line) f)

-- how many of its requests were rejected or gave up
abbrev pub lost_of : Option FlowSaid → ℕ
lost_of None = 0
lost_of (Some f) = lost (sums_of f)

-- where it stands
abbrev pub at_of : Option FlowSaid → Option FlowAt
at_of f = option_map (λ (f : FlowSaid). f.at) f

-- the pair of these: the more its longest wait changes, and how much of it was lost, the less
abbrev pub pair_of : Option FlowSaid → Option FlowSaid → FlowPair
pair_of one other = record {
  haste = 2 ^ 64 - 1 - distance (longest_of one) (longest_of other);
  luck = 2 ^ 64 - 1 - distance (lost_of one) (lost_of other);
  first = at_of one;
  second = at_of other;
}

-- the pair of these, if one of them is told
abbrev pub told_pair : Option FlowSaid → Option FlowSaid → List FlowPair
told_pair one other = if is_told_of one || is_told_of other then pair_of one other ∷ [] else []

-- the pairs of these flows of the first cluster, of which the first has this place among its own
abbrev pub pairs_from : (own others : List FlowSaid) → ℕ → List FlowSaid → List FlowPair
pairs_from own others i [] = []
pairs_from own others i (f ∷ flows) = told_pair (Some f) (option_and_then (slice_get others) (partner_of own others i f)) ++ pairs_from own others (suc i) flows

-- a flow of the second cluster alone, where it has no partner
abbrev pub alone_by : Option ℕ → FlowSaid → List FlowPair
alone_by None f = told_pair None (Some f)
alone_by (Some partner) f = []

-- those of these flows of the second cluster that are alone, of which the first has this place among its own
abbrev pub alone_from : (own others : List FlowSaid) → ℕ → List FlowSaid → List FlowPair
alone_from own others i [] = []
alone_from own others i (f ∷ flows) = alone_by (partner_of own others i f) f ++ alone_from own others (suc i) flows

-- the flows of two clusters in pairs, of which one is told: each flow is in one pair
abbrev pub all_pairs : (first second : List FlowSaid) → List FlowPair
all_pairs first second = pairs_from first second 0 first ++ alone_from second first 0 second

-- the level of a flow, behind all others where it is not there
abbrev pub level_in : Option FlowAt → ℕ
level_in None = 2 ^ 64 - 1
level_in (Some at) = at.level

abbrev pub flow_in : Option FlowAt → ℕ
flow_in None = 2 ^ 64 - 1
flow_in (Some at) = at.flow

-- what comes first by the first number in which two lists differ
abbrev pub is_less : List ℕ → List ℕ → Bool
is_less [] numbers = false
is_less (n ∷ ns) [] = false
is_less (n ∷ ns) (m ∷ ms) = nat_lt n m || ((n == m) && is_less ns ms)

abbrev pub numbers_of : FlowPair → List ℕ
numbers_of p = p.haste ∷ p.luck ∷ level_in p.first ∷ flow_in p.first ∷ level_in p.second ∷ flow_in p.second ∷ []

-- what changes most comes first: the longest wait, then how much was lost; then by the flow of the first cluster, and by that of the second
abbrev pub comes_before : FlowPair → FlowPair → Bool
comes_before a b = is_less (numbers_of a) (numbers_of b)

-- just the pairs of which one waited or was turned away, in their order
pub record ArePairs (first second : SideSaid) (pairs : List FlowPair) : Type 0 where
  pub all : IsPermutation (all_pairs (flows_of first) (flows_of second)) pairs
  pub sorted : IsSortedBy comes_before pairs
