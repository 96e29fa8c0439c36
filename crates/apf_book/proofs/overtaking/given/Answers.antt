-- Nothing is given at first, and one event more is counted.
use Rattle.std.proofs.Common.{◌<◌, ◌≤◌, length, take, drop, reverse, sym, ap, ◌∙◌, arith}
use Rattle.apf_history.specs.declared.events.Event.TheVariants.{Enter}
use Rattle.apf_model.specs.Fair.{service}
use Rattle.apf_model.specs.Waits.{granted}
use Rattle.apf_book.proofs.Stretches.{stretch_more}
use Rattle.apf_book.proofs.Givings.{service_none, granted_none}
use Rattle.apf_book.proofs.overtaking.given.Goals as goal

pub loop-place-init : goal.loop-place-init
loop-place-init c = record {
  services = λ k. c.no_services-services.ensures k ∙ sym (service_none c.args.widths.now c.args.log.now c.args.from k (omega arith));
  all = λ queues named. sym (granted_none c.args.widths.now c.args.log.now c.args.from queues (omega arith));
  small = λ k. let none = c.no_services-services.ensures k in omega arith;
  few = omega arith;
}

pub loop-place-preserved : goal.loop-place-preserved
loop-place-preserved c =
    let log = c.args.log.now in let widths = c.args.widths.now in let from = c.args.from in let place = c.loop-place.place in
    let after : from ≤ place = omega arith in let inside : place < length log = omega arith in
    let more = stretch_more log from place (Enter 0 0) after inside in
    record {
      services = λ k. c.give-all.ensures.services (reverse (drop from (take place log))) k (c.loop-place.invariant.services k) ∙ sym (ap (λ xs. service widths xs k) more);
      all = λ queues named.
          let before = c.loop-place.invariant.all queues named in
          let given = c.give-all.ensures.all (reverse (drop from (take place log))) queues (named place (Enter 0 0) inside) in
          let is = ap (λ xs. granted queues widths xs) more in
          omega arith;
      small = λ k. let before = c.loop-place.invariant.small k in let given = c.give-all.ensures.small k in omega arith;
      few = let before = c.loop-place.invariant.few in let given = c.give-all.ensures.few in omega arith;
    }
