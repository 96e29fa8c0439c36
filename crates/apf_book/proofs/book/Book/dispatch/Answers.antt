-- What the book for life dispatched is logged.
use Rattle.std.proofs.Common.{arith}
use Rattle.apf_book.specs.Batch.{ledger_with, life_of}
use Rattle.apf_book.proofs.Opened.{opened, unsettled}
use Rattle.apf_book.proofs.Batches.{begun, fits, small_then, serves_kept, few_served, dispatches_batch, dispatches, same_book}
use Rattle.apf_book.proofs.book.Book.dispatch.Goals as goal

pub append_newer-requires : goal.append_newer-requires
append_newer-requires g c =
    let laws = opened c.legal_histories_are_in_order.ensures in
    let serves = c.dispatch-count.ensures.answer (life_of (ledger_with c.self.inside.book c.self.inside.dealer c.self.inside.costs.items c.self.inside.hashes.items c.self.inside.log.items)) c.self.invariant.kept in
    let kept = serves_kept laws (unsettled c.unsettled_logs_are_fair.ensures) c.self.inside.book c.self.inside.dealer c.self.inside.costs.items c.self.inside.hashes.items c.self.inside.log.items c.self.inside.arrived.items _ c.self.invariant c.dispatch-count.result c.dispatch-count.new.self c.dispatch-count.ensures.same serves in
    record {
      begun = begun laws c.self.inside.book c.self.inside.dealer c.self.inside.costs.items c.self.inside.hashes.items c.self.inside.log.items c.self.inside.arrived.items _ c.self.invariant serves.events c.dispatch-count.new.self c.dispatch-count.ensures.same kept;
      room = fits laws c.self.inside.book c.self.inside.dealer c.self.inside.costs.items c.self.inside.hashes.items c.self.inside.log.items c.self.inside.arrived.items _ c.self.invariant serves.events c.dispatch-count.new.self c.dispatch-count.ensures.same kept;
      small = small_then laws c.self.inside.book c.self.inside.dealer c.self.inside.costs.items c.self.inside.hashes.items c.self.inside.log.items c.self.inside.arrived.items _ c.self.invariant serves.events c.dispatch-count.new.self c.dispatch-count.ensures.same kept;
    }

pub overflow_cast-result : goal.overflow_cast-result
overflow_cast-result g c = let few = few_served (opened c.legal_histories_are_in_order.ensures) (unsettled c.unsettled_logs_are_fair.ensures) c.self.inside.book c.self.inside.dealer c.self.inside.costs.items c.self.inside.hashes.items c.self.inside.log.items c.self.inside.arrived.items _ c.self.invariant c.dispatch-count.result c.dispatch-count.new.self c.dispatch-count.ensures.same (c.dispatch-count.ensures.answer (life_of (ledger_with c.self.inside.book c.self.inside.dealer c.self.inside.costs.items c.self.inside.hashes.items c.self.inside.log.items)) c.self.invariant.kept) in omega arith

pub invariant_of-self : goal.invariant_of-self
invariant_of-self g c =
    dispatches_batch (opened c.legal_histories_are_in_order.ensures) (unsettled c.unsettled_logs_are_fair.ensures) c.self.inside.book c.self.inside.dealer c.self.inside.costs.items c.self.inside.hashes.items c.self.inside.log.items c.self.inside.arrived.items _ c.self.invariant c.dispatch-count.result c.dispatch-count.new.self c.dispatch-count.ensures.same (c.dispatch-count.ensures.answer (life_of (ledger_with c.self.inside.book c.self.inside.dealer c.self.inside.costs.items c.self.inside.hashes.items c.self.inside.log.items)) c.self.invariant.kept) c.append_newer.new.log.items c.append_newer.ensures.whole _ c.append_newer.ensures.capacity

pub returns : goal.returns
returns g c = record {
  same = same_book (unsettled c.unsettled_logs_are_fair.ensures) c.args.self.now c.self.inside.book c.dispatch-count.new.self (ledger_with c.self.inside.book c.self.inside.dealer c.self.inside.costs.items c.self.inside.hashes.items c.self.inside.log.items) _ c.self.inside.arrived.items _ c.self.view_is c.dispatch-count.ensures.same (invariant_of-self g c);
  answer = dispatches (opened c.legal_histories_are_in_order.ensures) (unsettled c.unsettled_logs_are_fair.ensures) c.self.inside.book c.self.inside.dealer c.self.inside.costs.items c.self.inside.hashes.items c.self.inside.log.items c.self.inside.arrived.items _ c.self.invariant c.dispatch-count.result c.dispatch-count.new.self c.dispatch-count.ensures.same (c.dispatch-count.ensures.answer (life_of (ledger_with c.self.inside.book c.self.inside.dealer c.self.inside.costs.items c.self.inside.hashes.items c.self.inside.log.items)) c.self.invariant.kept) c.append_newer.new.log.items c.append_newer.ensures.whole c.args.self.now c.self.view_is;
}
