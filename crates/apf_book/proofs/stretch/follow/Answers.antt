-- One event more, by the laws of the histories before and after it.
use Rattle.std.proofs.Common.{◌+◌, ◌≤◌, ℕ, List, length, get_or, reverse, ap, ◌∙◌, sym, arith}
use Rattle.apf_history.specs.declared.events.Event.{Event}
use Rattle.apf_history.specs.declared.events.Event.TheVariants.{Enter}
use Rattle.apf_model.specs.History.{IsLegal}
use Rattle.apf_model.specs.Fair.{service}
use Rattle.apf_book.proofs.Opened.{opened}
use Rattle.apf_book.proofs.Stretches.{leaving_at, waiting_at, coming_one, stretch_more, stretch_none}
use Rattle.apf_book.proofs.stretch.follow.Goals as goal

pub waiting_after-requires-clause-some : goal.waiting_after-requires-clause-some
waiting_after-requires-clause-some c =
    let laws = opened c.legal_histories_are_in_order.ensures in let l = c.requires.legal in
    let some = leaving_at c.args.log.now (IsLegal l.0 l.1.0) (laws.beginnings l.0 l.1.0) (laws.numbers l.0 l.1.0) l.1.1 c.args.place (Enter 0 0) c.args.queue c.requires.in_log in
    let is = c.requires.counted.waiting in
    omega arith

pub returns-then-place-from : goal.returns-then-place-from
returns-then-place-from c =
    let laws = opened c.legal_histories_are_in_order.ensures in let l = c.requires.legal in
    record {
      waiting = waiting_at c.args.log.now (IsLegal l.0 l.1.0) (laws.beginnings l.0 l.1.0) (laws.numbers l.0 l.1.0) l.1.1 c.args.place (Enter 0 0) c.args.queue c.args.count.waiting c.waiting_after.result c.requires.in_log c.requires.counted.waiting c.waiting_after.ensures;
      service = c.service_after.ensures.value _ c.requires.counted.service ∙ sym (ap (λ (xs : List Event). service c.args.widths.now xs c.args.queue) (stretch_more c.args.log.now c.args.from c.args.place (Enter 0 0) c.if-place-from.true c.requires.in_log));
      few = (let one = coming_one (get_or c.args.log.now c.args.place (Enter 0 0)) c.args.queue in let f = c.requires.counted.few in let m = c.waiting_after.ensures in omega arith);
      small = (let s = c.requires.counted.small in let m = c.service_after.ensures.small in omega arith);
    }

pub returns-else-place-from : goal.returns-else-place-from
returns-else-place-from c =
    let laws = opened c.legal_histories_are_in_order.ensures in let l = c.requires.legal in
    let before = c.if-place-from.false in let inside = c.requires.in_log in
    let none = λ (k : ℕ) (f : k ≤ c.args.from) (i : k ≤ length c.args.log.now). ap (λ (xs : List Event). service c.args.widths.now (reverse xs) c.args.queue) (stretch_none c.args.log.now c.args.from k f i) in
    record {
      waiting = waiting_at c.args.log.now (IsLegal l.0 l.1.0) (laws.beginnings l.0 l.1.0) (laws.numbers l.0 l.1.0) l.1.1 c.args.place (Enter 0 0) c.args.queue c.args.count.waiting c.waiting_after.result c.requires.in_log c.requires.counted.waiting c.waiting_after.ensures;
      service = c.requires.counted.service ∙ (none c.args.place (omega arith) (omega arith) ∙ sym (none (c.args.place + 1) (omega arith) (omega arith)));
      few = (let one = coming_one (get_or c.args.log.now c.args.place (Enter 0 0)) c.args.queue in let f = c.requires.counted.few in let m = c.waiting_after.ensures in omega arith);
      small = (let s = c.requires.counted.small in omega arith);
    }
