-- The law, closed.
use Rattle.apf_book.specs.Histories.{IsolationLaw}
use Rattle.apf_book.proofs.histories.fair_histories_isolate.Goals as goal

pub returns : goal.returns
unfolding IsolationLaw
returns c = c.every_fair_history_isolates.ensures.isolated
