-- The law, closed.
use Rattle.apf_book.specs.Histories.{UnsettledLaw}
use Rattle.apf_book.proofs.histories.unsettled_logs_are_fair.Goals as goal

pub returns : goal.returns
unfolding UnsettledLaw
returns c = let law = c.every_unsettled_log_is_fair.ensures in record { same = law.same; numbers = law.numbers; fair = law.fair }
