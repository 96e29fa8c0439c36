use Rattle.apf_level.proofs.Following.{heard_on}
use Rattle.apf_level.proofs.hearing.hear_unqueued.Goals as goal

pub returns-clause-goes_on : goal.returns-clause-goes_on
returns-clause-goes_on c = record {
  number = c.hear.ensures.same.number;
  trace = heard_on (record { pass = c.args.pass.now.pass; desk = c.args.desk.now.desk }) (record { pass = c.hear.new.pass.pass; desk = c.hear.new.desk.desk }) c.hear.result c.hear.ensures.answer;
}
