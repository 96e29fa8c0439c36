-- A level without queues has no history.
use Rattle.std.proofs.Common.{refl}
use Rattle.apf_line.proofs.Ended.{fresh_says}
use Rattle.apf_line.proofs.Histories.{is_nothing_yet}
use Rattle.apf_line.proofs.ending.close_desk.Goals as goal

pub returns : goal.returns
returns c = λ k own. record {
  of_level = is_nothing_yet k _;
  gate = own.gate;
  agrees = fresh_says c.args.desk.desk own.fresh;
  logs_nothing = λ rejects. refl;
  newest = λ few. c.nothing.ensures _;
}
