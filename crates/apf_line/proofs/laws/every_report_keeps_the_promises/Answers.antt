-- Each promise by the law that it is of.
use Rattle.apf_gate.specs.Traces.{opening_of, moves}
use Rattle.apf_line.proofs.Promising.{one_decision, in_order, closed_stays_closed, within, it_adds_up}
use Rattle.apf_line.proofs.laws.every_report_keeps_the_promises.Goals as goal

pub returns : goal.returns
returns c = λ k v slots stations r e.
    let o = opening_of k.gate.shape in
    let steps = moves e.words_agree.trace in
    let safe = c.every_schedule_is_safe.ensures o steps e.words_agree.schedule in
    record {
      desk = e.desk;
      trace = e.words_agree.trace;
      longest = e.words_agree.longest;
      said = e.says.said;
      asked = e.of_level.asks;
      events_are = e.of_level.events_are;
      level = e.words_agree.level;
      promises =
          record {
            one_decision = one_decision k v slots stations r e safe;
            in_order = in_order k v slots stations r e safe (c.every_legal_history_is_in_order.ensures.beginnings v.hands v.limit) (c.every_legal_history_is_in_order.ensures.order v.hands v.limit);
            closed_stays_closed = closed_stays_closed k v slots stations r e safe;
            within_the_limit = within k v slots stations r e (λ later earlier is. c.every_schedule_is_safe.ensures o earlier (safe.beginnings later earlier is));
            it_adds_up = it_adds_up k v slots stations r e safe;
            no_queue_starves = λ costs agree. record {
              while_one_waits = λ later stretch earlier q i other unsettled is waits low other_low. c.every_life_wait_is_bounded.ensures.others k e.desk.knows.trace v costs later stretch earlier q i other e.of_level unsettled agree is waits low other_low;
              while_never_empty = λ later stretch earlier q other unsettled is never low other_low. c.every_life_history_isolates.ensures k e.desk.knows.trace v costs later stretch earlier q other e.of_level unsettled agree is low other_low never;
              in_seat_time = λ measure slack later stretch earlier q other is measures judged never low other_low. c.every_life_log_isolates.ensures.isolated k e.desk.knows.trace v costs measure slack later stretch earlier q other e.of_level agree is measures judged low other_low never;
              wait_in_seat_time = λ measure slack later stretch earlier q i other is measures judged waits low other_low. c.every_life_wait_is_bounded_in_seat_time.ensures.others k e.desk.knows.trace v costs measure slack later stretch earlier q i other e.of_level agree is measures judged waits low other_low;
            };
            no_chosen_request_is_forgotten = e.nobody_waits;
          };
    }
