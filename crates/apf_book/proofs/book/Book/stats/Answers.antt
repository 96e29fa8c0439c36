-- The numbers are those of the book for life, and small.
use Rattle.std.proofs.Common.{◌-◌, subst, arith}
use Rattle.apf_model.specs.Outcome.{stats_of}
use Rattle.apf_book.specs.BookView.{BookView}
use Rattle.apf_book.specs.LedgerKept.{AreStats}
use Rattle.apf_book.specs.Batch.{ledger_with, life_of}
use Rattle.apf_book.proofs.Opened.{opened}
use Rattle.apf_book.proofs.Batches.{are_few, short_log}
use Rattle.apf_book.proofs.book.Book.stats.Goals as goal

pub overflow_cast-entered : goal.overflow_cast-entered
overflow_cast-entered g c =
    let few = are_few (opened c.legal_histories_are_in_order.ensures) (ledger_with c.self.inside.book c.self.inside.dealer c.self.inside.costs.items c.self.inside.hashes.items c.self.inside.log.items) c.self.inside.book c.self.inside.arrived.items _ c.stats-stats.result c.self.invariant
    (c.stats-stats.ensures (life_of (ledger_with c.self.inside.book c.self.inside.dealer c.self.inside.costs.items c.self.inside.hashes.items c.self.inside.log.items)) c.self.invariant.kept (let short = short_log (opened c.legal_histories_are_in_order.ensures) (ledger_with c.self.inside.book c.self.inside.dealer c.self.inside.costs.items c.self.inside.hashes.items c.self.inside.log.items) c.self.inside.book c.self.inside.arrived.items _ c.self.invariant in omega (arith, short))) in
    let k = few.entered in let gone = few.gone in omega (arith, k, gone)

pub overflow_cast-dispatched : goal.overflow_cast-dispatched
overflow_cast-dispatched g c =
    let few = are_few (opened c.legal_histories_are_in_order.ensures) (ledger_with c.self.inside.book c.self.inside.dealer c.self.inside.costs.items c.self.inside.hashes.items c.self.inside.log.items) c.self.inside.book c.self.inside.arrived.items _ c.stats-stats.result c.self.invariant
    (c.stats-stats.ensures (life_of (ledger_with c.self.inside.book c.self.inside.dealer c.self.inside.costs.items c.self.inside.hashes.items c.self.inside.log.items)) c.self.invariant.kept (let short = short_log (opened c.legal_histories_are_in_order.ensures) (ledger_with c.self.inside.book c.self.inside.dealer c.self.inside.costs.items c.self.inside.hashes.items c.self.inside.log.items) c.self.inside.book c.self.inside.arrived.items _ c.self.invariant in omega (arith, short))) in
    let k = few.dispatched in let gone = few.gone in omega (arith, k, gone)

pub overflow_cast-struck : goal.overflow_cast-struck
overflow_cast-struck g c =
    let few = are_few (opened c.legal_histories_are_in_order.ensures) (ledger_with c.self.inside.book c.self.inside.dealer c.self.inside.costs.items c.self.inside.hashes.items c.self.inside.log.items) c.self.inside.book c.self.inside.arrived.items _ c.stats-stats.result c.self.invariant
    (c.stats-stats.ensures (life_of (ledger_with c.self.inside.book c.self.inside.dealer c.self.inside.costs.items c.self.inside.hashes.items c.self.inside.log.items)) c.self.invariant.kept (let short = short_log (opened c.legal_histories_are_in_order.ensures) (ledger_with c.self.inside.book c.self.inside.dealer c.self.inside.costs.items c.self.inside.hashes.items c.self.inside.log.items) c.self.inside.book c.self.inside.arrived.items _ c.self.invariant in omega (arith, short))) in
    let k = few.struck in let gone = few.gone in omega (arith, k, gone)

pub overflow_cast-result : goal.overflow_cast-result
overflow_cast-result g c =
    let few = are_few (opened c.legal_histories_are_in_order.ensures) (ledger_with c.self.inside.book c.self.inside.dealer c.self.inside.costs.items c.self.inside.hashes.items c.self.inside.log.items) c.self.inside.book c.self.inside.arrived.items _ c.stats-stats.result c.self.invariant
    (c.stats-stats.ensures (life_of (ledger_with c.self.inside.book c.self.inside.dealer c.self.inside.costs.items c.self.inside.hashes.items c.self.inside.log.items)) c.self.invariant.kept (let short = short_log (opened c.legal_histories_are_in_order.ensures) (ledger_with c.self.inside.book c.self.inside.dealer c.self.inside.costs.items c.self.inside.hashes.items c.self.inside.log.items) c.self.inside.book c.self.inside.arrived.items _ c.self.invariant in omega (arith, short))) in
    let k = few.full in let gone = few.gone in omega (arith, k, gone)

pub overflow_sub-result : goal.overflow_sub-result
overflow_sub-result g c =
    let few = are_few (opened c.legal_histories_are_in_order.ensures) (ledger_with c.self.inside.book c.self.inside.dealer c.self.inside.costs.items c.self.inside.hashes.items c.self.inside.log.items) c.self.inside.book c.self.inside.arrived.items _ c.stats-stats.result c.self.invariant
    (c.stats-stats.ensures (life_of (ledger_with c.self.inside.book c.self.inside.dealer c.self.inside.costs.items c.self.inside.hashes.items c.self.inside.log.items)) c.self.invariant.kept (let short = short_log (opened c.legal_histories_are_in_order.ensures) (ledger_with c.self.inside.book c.self.inside.dealer c.self.inside.costs.items c.self.inside.hashes.items c.self.inside.log.items) c.self.inside.book c.self.inside.arrived.items _ c.self.invariant in omega (arith, short))) in
    let k = few.gone in let gone = few.gone in omega (arith, k, gone)

pub overflow_sub-result-2 : goal.overflow_sub-result-2
overflow_sub-result-2 g c =
    let few = are_few (opened c.legal_histories_are_in_order.ensures) (ledger_with c.self.inside.book c.self.inside.dealer c.self.inside.costs.items c.self.inside.hashes.items c.self.inside.log.items) c.self.inside.book c.self.inside.arrived.items _ c.stats-stats.result c.self.invariant
    (c.stats-stats.ensures (life_of (ledger_with c.self.inside.book c.self.inside.dealer c.self.inside.costs.items c.self.inside.hashes.items c.self.inside.log.items)) c.self.invariant.kept (let short = short_log (opened c.legal_histories_are_in_order.ensures) (ledger_with c.self.inside.book c.self.inside.dealer c.self.inside.costs.items c.self.inside.hashes.items c.self.inside.log.items) c.self.inside.book c.self.inside.arrived.items _ c.self.invariant in omega (arith, short))) in
    let k = few.gone in let gone = few.gone in omega (arith, k, gone)

pub returns-clause-sum : goal.returns-clause-sum
returns-clause-sum g c =
    let few = are_few (opened c.legal_histories_are_in_order.ensures) (ledger_with c.self.inside.book c.self.inside.dealer c.self.inside.costs.items c.self.inside.hashes.items c.self.inside.log.items) c.self.inside.book c.self.inside.arrived.items _ c.stats-stats.result c.self.invariant
    (c.stats-stats.ensures (life_of (ledger_with c.self.inside.book c.self.inside.dealer c.self.inside.costs.items c.self.inside.hashes.items c.self.inside.log.items)) c.self.invariant.kept (let short = short_log (opened c.legal_histories_are_in_order.ensures) (ledger_with c.self.inside.book c.self.inside.dealer c.self.inside.costs.items c.self.inside.hashes.items c.self.inside.log.items) c.self.inside.book c.self.inside.arrived.items _ c.self.invariant in omega (arith, short))) in
    let k = few.gone in let gone = few.gone in omega (arith, k, gone)

pub returns-clause-stats : goal.returns-clause-stats
returns-clause-stats g c =
    let few = are_few (opened c.legal_histories_are_in_order.ensures) (ledger_with c.self.inside.book c.self.inside.dealer c.self.inside.costs.items c.self.inside.hashes.items c.self.inside.log.items) c.self.inside.book c.self.inside.arrived.items _ c.stats-stats.result c.self.invariant
    (c.stats-stats.ensures (life_of (ledger_with c.self.inside.book c.self.inside.dealer c.self.inside.costs.items c.self.inside.hashes.items c.self.inside.log.items)) c.self.invariant.kept (let short = short_log (opened c.legal_histories_are_in_order.ensures) (ledger_with c.self.inside.book c.self.inside.dealer c.self.inside.costs.items c.self.inside.hashes.items c.self.inside.log.items) c.self.inside.book c.self.inside.arrived.items _ c.self.invariant in omega (arith, short))) in
    subst (λ (k : BookView). AreStats (record { entered = c.stats-stats.result.entered; dispatched = c.stats-stats.result.dispatched; struck = c.stats-stats.result.struck; full = c.stats-stats.result.full; waiting = c.stats-stats.result.entered - c.stats-stats.result.dispatched - c.stats-stats.result.struck }) (stats_of k.ledger.sizes.deck k.ledger.history)) c.self.view_is (record {
      entered = few.are.entered;
      dispatched = few.are.dispatched;
      struck = few.are.struck;
      full = few.are.full;
      waiting = few.waiting c.self.inside.dealer.deck c.self.invariant.kept.of_life.names_queues;
    })
