-- The law of settled logs.
use Rattle.apf_bound.proofs.Meeting.{sides_meet}
use Rattle.apf_bound.proofs.laws.every_bound_is_met.Goals as goal

pub returns : goal.returns
returns c = λ queues costs measure hands limit l s settled measures sides.
    sides_meet c.every_settled_log_isolates.ensures.isolated queues costs measure hands limit l settled measures s sides
