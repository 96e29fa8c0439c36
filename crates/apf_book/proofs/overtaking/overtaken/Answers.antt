-- The laws of a request that waits give the bounds.
use Rattle.apf_book.proofs.Opened.{waits}
use Rattle.apf_book.proofs.Givings.{answers_most, answers_all}
use Rattle.apf_book.proofs.overtaking.overtaken.Goals as goal

pub returns-clause-most_bounded : goal.returns-clause-most_bounded
returns-clause-most_bounded c = answers_most (waits c.waits_are_bounded.ensures) c.args.widths.now c.args.log.now c.args.request c.requires.have_queues c.wait_of.result c.wait_of.ensures

pub returns-clause-all_bounded : goal.returns-clause-all_bounded
returns-clause-all_bounded c = answers_all (waits c.waits_are_bounded.ensures) c.args.widths.now c.args.log.now c.args.request c.requires.have_queues c.wait_of.result c.wait_of.ensures
