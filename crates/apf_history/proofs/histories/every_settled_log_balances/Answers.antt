-- Each clause is a lemma.
use Rattle.apf_history.proofs.Settled.{IsSettled-append, books, covered}
use Rattle.apf_history.proofs.SettledOnce.{once}
use Rattle.apf_history.proofs.histories.every_settled_log_balances.Goals as goal

pub returns-clause-beginnings : goal.returns-clause-beginnings
returns-clause-beginnings c = IsSettled-append

pub returns-clause-books : goal.returns-clause-books
returns-clause-books c = books

pub returns-clause-covered : goal.returns-clause-covered
returns-clause-covered c = covered

pub returns-clause-once : goal.returns-clause-once
returns-clause-once c = once
