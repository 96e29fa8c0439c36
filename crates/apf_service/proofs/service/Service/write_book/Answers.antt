-- The book is that of the level's word, of the numbers and of the level's histories, also where it is not written.
use Rattle.std.proofs.Common.{rules}
use Rattle.std.proofs.lemmas.Result.{IfOk-weaker}
use Rattle.apf_service.proofs.service.Service.write_book.Goals as goal

pub returns-clause-told : goal.returns-clause-told
returns-clause-told g c = record {
  word = c.look-word.result;
  stats = c.stats-stats.result;
  does = record {
    level = c.look-word.new.self;
    steps = c.look-word.ensures.looks;
    slots = c.look-word.ensures.slots;
    continues = record { same = c.look-word.ensures.same; history = c.look-word.ensures.history };
    after = search rules;
  };
  stats_are = record { lived = c.has_a_history.ensures; of_each = c.stats-stats.ensures };
  told = IfOk-weaker c.write.result _ _ (λ done appended. search (appended, c.closed.ensures, c.from.ensures, rules)) c.write.ensures;
}
