use Rattle.apf_book.proofs.Opened.{opened}
use Rattle.apf_book.proofs.Stopped.{forgotten}
use Rattle.apf_book.proofs.laws.no_request_is_forgotten.Goals as goal

pub returns : goal.returns
returns c = forgotten (opened c.legal_histories_are_in_order.ensures) c.no_dispatch_is_lost.ensures
