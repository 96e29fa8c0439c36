-- Each clause is a lemma.
use Rattle.apf_history.proofs.Lists.{AreApart-pairs}
use Rattle.apf_history.proofs.Waiting.{IsLegal-append, stands_in_one, waiting_apart, within_limit, queues_after}
use Rattle.apf_history.proofs.Statuses.{statuses, found}
use Rattle.apf_history.proofs.Numbers.{enters_once, dispatched_once, counted}
use Rattle.apf_history.proofs.QueueOrder.{in_order}
use Rattle.apf_history.proofs.histories.every_legal_history_is_in_order.Goals as goal

pub returns-clause-beginnings : goal.returns-clause-beginnings
returns-clause-beginnings c = IsLegal-append

pub returns-clause-order : goal.returns-clause-order
returns-clause-order c = λ hands limit h l. record {
  in_order = in_order hands limit h l;
  enters_once = enters_once hands limit h l;
  dispatched_once = dispatched_once hands limit h l;
  stands_once = λ q. AreApart-pairs _ (waiting_apart hands limit h l q);
  stands_in_one = stands_in_one hands limit h l;
  within_limit = within_limit hands limit h l;
}

pub returns-clause-statuses : goal.returns-clause-statuses
returns-clause-statuses c = statuses

pub returns-clause-numbers : goal.returns-clause-numbers
returns-clause-numbers c = counted

pub returns-clause-follows : goal.returns-clause-follows
returns-clause-follows c = λ hands limit h e l m. record { found = found hands limit h l e m; queues = queues_after hands limit h l e m }
