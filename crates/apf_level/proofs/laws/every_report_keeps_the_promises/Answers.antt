-- Each promise by the law that it is of.
use Rattle.std.proofs.Common.{List, ◌∷◌, ◌++◌, subst}
use Rattle.apf_history.specs.declared.events.Event.{Event}
use Rattle.apf_history.specs.declared.events.Event.TheVariants.{Enter}
use Rattle.apf_history.specs.declared.events.LogEntry.{LogEntry}
use Rattle.apf_history.specs.declared.events.LogEntry.TheVariants.{Happens}
use Rattle.apf_model.specs.Charged.{IsSettled}
use Rattle.apf_model.specs.Fair.{IsFair}
use Rattle.apf_gate.specs.Traces.{opening_of, moves}
use Rattle.apf_book.specs.LedgerView.{hand_in}
use Rattle.apf_level.specs.Levels.{logged_as}
use Rattle.apf_level.proofs.Promising.{one_decision, in_order, within, it_adds_up, same_hands}
use Rattle.apf_level.proofs.laws.every_report_keeps_the_promises.Goals as goal

pub returns : goal.returns
returns c = λ k level decision h passes stations counts shape one_each e sums.
    let o = opening_of k.gate.shape in
    let v = logged_as k h in
    let steps = moves e.made.trace in
    let safe = c.every_schedule_is_safe.ensures o steps e.made.schedule in
    record {
      made = e.made;
      promises =
          record {
            one_decision = one_decision k level decision h passes stations counts shape e sums one_each safe;
            in_order = in_order k level decision h passes stations counts shape e sums one_each (c.every_legal_history_is_in_order.ensures.beginnings (hand_in v) v.limit) (c.every_legal_history_is_in_order.ensures.order (hand_in v) v.limit);
            closed_stays_closed = safe.no_arrival_after_close;
            within_the_limit = within k level decision h passes stations counts shape e sums one_each (λ later earlier is. c.every_schedule_is_safe.ensures o earlier (safe.beginnings later earlier is));
            it_adds_up = it_adds_up k level decision h passes stations counts shape e sums one_each;
            no_queue_starves = λ costs agree.
                let fair = c.every_fair_history_stands.ensures v.sizes.deck v.costs costs (hand_in v) (hand_in v) v.limit h (same_hands (hand_in v) h) agree e.of_log.fair in
                record {
                  while_one_waits = λ later stretch earlier q i other _ is waits low other_low.
                      c.every_wait_is_bounded.ensures.others v.sizes.deck costs (hand_in v) v.limit later stretch earlier q i (subst (λ (x : List Event). IsFair v.sizes.deck costs (hand_in v) v.limit x) is fair) waits low other other_low;
                  while_never_empty = λ later stretch earlier q other _ is never low other_low.
                      c.every_fair_history_isolates.ensures.isolated v.sizes.deck costs (hand_in v) v.limit later stretch earlier q other (subst (λ (x : List Event). IsFair v.sizes.deck costs (hand_in v) v.limit x) is fair) low other_low never;
                  in_seat_time = λ measure slack later stretch earlier q other is measures judged never low other_low.
                      let settled = c.every_unsettled_log_is_fair.ensures.settled v.sizes.deck costs (hand_in v) v.limit h fair in
                      c.every_settled_log_isolates.ensures.isolated slack v.sizes.deck costs measure (hand_in v) v.limit stretch earlier q other
                      (c.every_settled_log_balances.ensures.beginnings v.sizes.deck costs (hand_in v) v.limit later (stretch ++ earlier) (subst (λ (l : List LogEntry). IsSettled v.sizes.deck costs (hand_in v) v.limit l) is settled)) measures judged low other_low never;
                  wait_in_seat_time = λ measure slack later stretch earlier q i other is measures judged waits low other_low.
                      let settled = c.every_unsettled_log_is_fair.ensures.settled v.sizes.deck costs (hand_in v) v.limit h fair in
                      c.every_settled_wait_is_bounded.ensures.others slack v.sizes.deck costs measure (hand_in v) v.limit stretch earlier q i other
                      (c.every_settled_log_balances.ensures.beginnings v.sizes.deck costs (hand_in v) v.limit later (stretch ++ Happens (Enter i q) ∷ earlier) (subst (λ (l : List LogEntry). IsSettled v.sizes.deck costs (hand_in v) v.limit l) is settled)) measures judged waits low other_low;
                };
            no_chosen_request_is_forgotten = e.nobody_waits;
          };
    }
