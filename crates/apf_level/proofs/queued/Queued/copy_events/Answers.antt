use Rattle.std.proofs.Common.{◌≡◌, ◌≤◌, ◌*◌, List, length, sym, ap, ◌∙◌, arith}
use Rattle.std.proofs.lemmas.List.{length-reverse}
use Rattle.apf_history.specs.declared.events.Event.{Event}
use Rattle.apf_book.specs.LedgerView.{LedgerView, IsLogOf, hand_in}
use Rattle.apf_level.proofs.queued.Queued.copy_events.Goals as goal

pub copy-requires : goal.copy-requires
copy-requires g c =
    let log : List Event = c.log.result.now in
    let v : LedgerView = c.args.self.now.book.ledger in
    let of_log : IsLogOf v = c.log.ensures.kept.of_log in
    let two : length v.history ≤ 2 * length v.costs = (c.every_legal_history_is_in_order.ensures.numbers (hand_in v) v.limit v.history of_log.fair.0).of_requests (length v.costs) of_log.names_requests in
    let few = of_log.few in
    let same : length log ≡ length v.history = sym (length-reverse log) ∙ ap (λ (l : List Event). length l) c.log.ensures.log in
    record { few = (omega arith) }
