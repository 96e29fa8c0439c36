-- The flows of a cluster, and where each stands by its key.
use Rattle.std.specs.Prelude.{List, map}
use Rattle.apf_cluster_tables.specs.Pairs.{FlowSaid, flow_view}
use Rattle.apf_cluster_tables.specs.Places.{ArePlaces}
use Rattle.apf_cluster_tables.specs.declared.pairs.Found.{Found}

-- its flows
abbrev pub said : Found → List FlowSaid
said found = map flow_view found.flows.now

-- each is found at its key
abbrev pub AreFound : Found → Type 0
AreFound found = ArePlaces (said found) found.places.now
