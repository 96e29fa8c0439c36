use Rattle.apf_gate.proofs.More.{same_station_then}
use Rattle.apf_gate.proofs.gate.Gate.try_set_limit.Goals as goal

pub returns-then-not-exchange_limit-clause-same : goal.returns-then-not-exchange_limit-clause-same
returns-then-not-exchange_limit-clause-same g c = same_station_then _ _ _ c.look-level.ensures.same c.exchange_limit.ensures.same

pub returns-clause-same : goal.returns-clause-same
returns-clause-same g c = same_station_then _ _ _ c.look-level.ensures.same c.exchange_limit.ensures.same
