use Rattle.std.proofs.Common.{[], ◌∷◌, ap, refl}
use Rattle.apf_history.specs.declared.events.Event.TheVariants.{Strike}
use Rattle.apf_book.specs.LedgerView.{LedgerView}
use Rattle.apf_stats.specs.Traces.{shown}
use Rattle.apf_level.proofs.Growing.{went_once}
use Rattle.apf_level.proofs.queued.strike_and_serve.Goals as goal

pub serve-requires-clause-went_on : goal.serve-requires-clause-went_on
serve-requires-clause-went_on g c =
    let struck = c.if-struck.ensures.answer.struck refl in
    went_once (shown c.args.board.now.trace) _ c.log-before.result.now c.args.book.now.ledger.history c.strike-struck.new.self.ledger.history (Strike c.args.request struck.0 ∷ [])
    c.requires.published refl c.log-before.ensures.log (ap (λ (v : LedgerView). v.history) struck.2)
