use Rattle.apf_line.proofs.Stopped.{not_forgotten}
use Rattle.apf_line.proofs.laws.no_life_request_is_forgotten.Goals as goal

pub returns : goal.returns
returns c = λ shape account b rest sound same.
    let laws = c.every_legal_history_is_in_order.ensures in
    not_forgotten laws.statuses laws.numbers c.no_dispatch_is_lost.ensures shape account b sound same rest
