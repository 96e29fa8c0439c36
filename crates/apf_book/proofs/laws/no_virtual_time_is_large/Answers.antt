-- By what each event makes of the numbers.
use Rattle.apf_book.proofs.Opened.{opened}
use Rattle.apf_book.proofs.Times.{small}
use Rattle.apf_book.proofs.laws.no_virtual_time_is_large.Goals as goal

pub returns : goal.returns
returns c v is = small (opened c.legal_histories_are_in_order.ensures) v is
