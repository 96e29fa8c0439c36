use Rattle.apf_gate.proofs.More.{same_pass_then}
use Rattle.apf_gate.proofs.gate.Gate.try_take.Goals as goal

pub returns-then-not-exchange_for_seats-clause-same : goal.returns-then-not-exchange_for_seats-clause-same
returns-then-not-exchange_for_seats-clause-same g c = same_pass_then _ _ _ c.load_as_pass-level.ensures.same c.exchange_for_seats.ensures.same

pub returns-clause-same : goal.returns-clause-same
returns-clause-same g c = same_pass_then _ _ _ c.load_as_pass-level.ensures.same c.exchange_for_seats.ensures.same
