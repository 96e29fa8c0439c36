use Rattle.std.proofs.Common.{ap}
use Rattle.apf_book.specs.LedgerView.{LedgerView}
use Rattle.apf_stats.specs.Traces.{shown}
use Rattle.apf_level.proofs.Growing.{went_more}
use Rattle.apf_level.proofs.queued.serve.Goals as goal

pub publish-requires : goal.publish-requires
publish-requires g c = record {
  went_on = went_more (shown c.args.board.now.trace) c.args.before c.args.book.now.ledger.history c.dispatch-count.new.self.ledger.history c.dispatch-count.ensures.answer.log.events c.requires.went_on
      (ap (λ (v : LedgerView). v.history) c.dispatch-count.ensures.answer.log.log);
}
