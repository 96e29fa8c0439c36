-- The law of every fair history, at the stretches of the log.
use Rattle.std.proofs.Common.{◌≡◌, List, reverse, ap, sym, ◌∙◌, subst}
use Rattle.apf_history.specs.declared.events.Event.{Event}
use Rattle.apf_model.specs.Fair.{IsFair}
use Rattle.apf_book.specs.LedgerView.{hand_in}
use Rattle.apf_book.specs.BookView.{BookView, IsKept}
use Rattle.apf_book.specs.Batch.{ledger_with}
use Rattle.apf_book.proofs.Opened.{balanced, isolated, waits, unsettled}
use Rattle.apf_book.proofs.Batches.{is_kept}
use Rattle.apf_book.proofs.Stretches.{services_differ, services_isolated, waits_bounded}
use Rattle.apf_book.proofs.book.Book.log.Goals as goal

pub returns : goal.returns
returns g c =
    let k = c.args.self.now in let v = k.ledger in
    let log : List Event = c.as_slice.result.now in
    let kept : IsKept k.desk.desk v = subst (λ (b : BookView). IsKept b.desk.desk b.ledger) c.self.view_is (is_kept (unsettled c.unsettled_logs_are_fair.ensures) (ledger_with c.self.inside.book c.self.inside.dealer c.self.inside.costs.items c.self.inside.hashes.items c.self.inside.log.items) c.self.inside.book c.self.inside.arrived.items _ c.self.invariant) in
    let is : reverse log ≡ v.history = ap (λ (xs : List Event). reverse xs) c.as_slice.ensures.value ∙ ap (λ (b : BookView). b.ledger.history) c.self.view_is in
    let fair : IsFair v.sizes.deck v.costs (hand_in v) v.limit (reverse log) = subst (IsFair v.sizes.deck v.costs (hand_in v) v.limit) (sym is) kept.of_log.fair in
    record {
      log = is;
      balanced = λ from to a b in_order in_log la lb some_a some_b. services_differ (balanced c.fair_histories_are_balanced.ensures) log v.costs from to a b in_order in_log some_a some_b v.sizes.deck (hand_in v) v.limit fair la lb;
      isolated = services_isolated log v.costs v.sizes.deck (hand_in v) v.limit fair (isolated c.fair_histories_isolate.ensures);
      waits = waits_bounded log v.costs v.sizes.deck (hand_in v) v.limit fair (waits c.waits_are_bounded.ensures);
      kept = kept;
    }
