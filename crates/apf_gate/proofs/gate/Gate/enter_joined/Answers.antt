use Rattle.apf_gate.proofs.More.{more_then}
use Rattle.apf_gate.proofs.gate.Gate.enter_joined.Goals as goal

pub returns-then-not-exchange_joined-clause-more : goal.returns-then-not-exchange_joined-clause-more
returns-then-not-exchange_joined-clause-more g c = more_then _ _ _ c.load_joined_level-level.ensures.more c.exchange_joined.ensures.more

pub returns-clause-more : goal.returns-clause-more
returns-clause-more g c = more_then _ _ _ c.load_joined_level-level.ensures.more c.exchange_joined.ensures.more
