-- Events of a history of the level.
use Rattle.std.proofs.Common.{ℕ, subst}
use Rattle.apf_book.specs.RecentEvents.{CopiesLate}
use Rattle.apf_level.proofs.LifeHistories.{opened}
use Rattle.apf_level.proofs.life.queued.Queued.copy_events.Goals as goal

pub returns-clause-of_level : goal.returns-clause-of_level
returns-clause-of_level g c =
    let h = c.has_a_history.ensures in
    let own = c.args.self.now in record {
      view = h.view;
      trace = own.book.desk.desk.knows.trace;
      of_level = (opened c.every_level_has_histories.ensures).of_level g.K.Naming.level h.view own.book own.tied h.kept;
      copies = λ few. subst (λ (n : ℕ). CopiesLate n h.view.history c.args.from c.args.into.now c.copy_events.result c.copy_events.new.into) own.room (c.copy_events.ensures h.view h.kept few);
    }
