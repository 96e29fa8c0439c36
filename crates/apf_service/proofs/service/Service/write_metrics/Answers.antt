-- The numbers are told with the limit of the level's word, also where they are not written.
use Rattle.std.proofs.Common.{rules}
use Rattle.std.proofs.lemmas.Result.{IfOk-weaker}
use Rattle.apf_service.proofs.service.Service.write_metrics.Goals as goal

pub returns-clause-told : goal.returns-clause-told
returns-clause-told g c = record {
  word = c.look-word.result;
  does = record {
    level = c.look-word.new.self;
    steps = c.look-word.ensures.looks;
    slots = c.look-word.ensures.slots;
    continues = record { same = c.look-word.ensures.same; history = c.look-word.ensures.history };
    after = search rules;
  };
  told = IfOk-weaker c.write_metrics.result _ _ (λ done appended. search (appended, rules)) c.write_metrics.ensures;
}
