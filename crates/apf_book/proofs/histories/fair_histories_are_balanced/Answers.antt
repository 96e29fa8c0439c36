-- The law, closed.
use Rattle.apf_book.specs.Histories.{FairLaw}
use Rattle.apf_book.proofs.histories.fair_histories_are_balanced.Goals as goal

pub returns : goal.returns
unfolding FairLaw
returns c = c.every_fair_history_is_balanced.ensures.balanced
