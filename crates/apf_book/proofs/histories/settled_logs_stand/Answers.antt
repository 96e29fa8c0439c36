-- The law, closed.
use Rattle.apf_book.specs.Histories.{StandingLaw}
use Rattle.apf_book.proofs.histories.settled_logs_stand.Goals as goal

pub returns : goal.returns
unfolding StandingLaw
returns c = record {
  stands = c.every_settled_log_stands.ensures.stands;
  numbers = c.every_settled_log_stands.ensures.numbers;
  charges = c.every_settled_log_stands.ensures.charges;
  among = c.every_charge_is_of_one_that_executes.ensures.among;
  unnamed = c.every_charge_is_of_one_that_executes.ensures.unnamed;
  covered = c.every_settled_log_balances.ensures.covered;
  from_queue = c.every_charge_is_of_one_that_executes.ensures.from_queue;
}
