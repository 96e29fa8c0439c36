-- The law, closed.
use Rattle.apf_book.specs.Histories.{WaitLaws}
use Rattle.apf_book.proofs.histories.waits_are_bounded.Goals as goal

pub returns : goal.returns
unfolding WaitLaws
returns c = record { own = c.every_wait_is_bounded.ensures.own; others = c.every_wait_is_bounded.ensures.others; all = c.every_wait_is_bounded.ensures.all }
