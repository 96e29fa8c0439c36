-- Each clause is a lemma.
use Rattle.apf_history.proofs.Waits.{own, others, all}
use Rattle.apf_history.proofs.histories.every_wait_is_bounded.Goals as goal

pub returns : goal.returns
returns c = record { own = own; others = others; all = all }
