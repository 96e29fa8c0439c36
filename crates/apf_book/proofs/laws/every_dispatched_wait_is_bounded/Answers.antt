use Rattle.apf_book.proofs.Opened.{opened, waits}
use Rattle.apf_book.proofs.Dispatched.{dispatches_bounded}
use Rattle.apf_book.proofs.laws.every_dispatched_wait_is_bounded.Goals as goal

pub returns : goal.returns
returns c = dispatches_bounded (opened c.legal_histories_are_in_order.ensures) (waits c.waits_are_bounded.ensures)
