-- Each clause is a lemma.
use Rattle.apf_history.proofs.Charges.{among, from_queue, unnamed}
use Rattle.apf_history.proofs.histories.every_charge_is_of_one_that_executes.Goals as goal

pub returns-clause-among : goal.returns-clause-among
returns-clause-among c = among

pub returns-clause-unnamed : goal.returns-clause-unnamed
returns-clause-unnamed c = unnamed

pub returns-clause-from_queue : goal.returns-clause-from_queue
returns-clause-from_queue c = from_queue
