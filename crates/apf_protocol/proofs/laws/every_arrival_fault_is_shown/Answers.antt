use Rattle.std.proofs.Common.{codes}
use Rattle.serde_json.specs.Find.{get}
use Rattle.apf_protocol.proofs.ObjectFaults.{every_fault}
use Rattle.apf_protocol.proofs.laws.every_arrival_fault_is_shown.Goals as goal

pub returns : goal.returns
returns c = every_fault (λ d. c.every_flow_fault_is_told.ensures (get (codes "hash") d) (get (codes "schema") d) (get (codes "distinguisher") d)) c.every_unknown_key_is_named.ensures
