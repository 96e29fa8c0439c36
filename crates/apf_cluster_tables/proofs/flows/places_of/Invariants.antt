-- At each key is the place of its first flow so far, and that of another one is to come.
use Rattle.std.proofs.Common.{◌≡◌, drop, map}
use Rattle.std.specs.Option.{option_or}
use Rattle.apf_matching.specs.First.{place_from}
use Rattle.apf_cluster_tables.specs.Pairs.{FlowSaid, Key, flow_view, is_same, key_of, place_of}
use Rattle.apf_cluster_tables.specs.Places.{place_at}
use Rattle.apf_cluster_tables.proofs.flows.places_of.Given as goal

abbrev pub invariant-loop-place : goal.invariant-loop-place
invariant-loop-place l = (key : Key)
    → option_or (place_at l.places key) (place_from (λ (f : FlowSaid). is_same (key_of f) key) l.place (map flow_view (drop l.place l.flows))) ≡ place_of key (map flow_view l.flows)
