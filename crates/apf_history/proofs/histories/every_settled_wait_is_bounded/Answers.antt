-- Each clause is a lemma.
use Rattle.apf_history.proofs.SettledWaits.{own_settled, others_settled, by_seats_settled}
use Rattle.apf_history.proofs.histories.every_settled_wait_is_bounded.Goals as goal

pub returns : goal.returns
returns c = record { own = own_settled; others = others_settled; by_seats = by_seats_settled }
