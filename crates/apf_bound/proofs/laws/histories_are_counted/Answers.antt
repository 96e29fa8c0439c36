use Rattle.apf_bound.specs.Kept.{CountLaw}
use Rattle.apf_bound.proofs.laws.histories_are_counted.Goals as goal

pub returns : goal.returns
unfolding CountLaw
returns c = λ hands limit h q legal. (c.every_legal_history_is_in_order.ensures.numbers hands limit h legal).of_queue q
