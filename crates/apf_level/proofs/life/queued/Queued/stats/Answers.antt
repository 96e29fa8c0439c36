-- The numbers of a history of the level.
use Rattle.apf_level.proofs.LifeHistories.{opened}
use Rattle.apf_level.proofs.life.queued.Queued.stats.Goals as goal

pub returns-clause-of_level : goal.returns-clause-of_level
returns-clause-of_level g c =
    let h = c.has_a_history.ensures in
    let own = c.args.self.now in record {
      view = h.view;
      trace = own.book.desk.desk.knows.trace;
      of_level = (opened c.every_level_has_histories.ensures).of_level g.K.Naming.level h.view own.book own.tied h.kept;
      stats_are = λ few. c.stats.ensures h.view h.kept few;
    }
