-- The law of every settled log, of a beginning of one and of the costs of those that it names.
use Rattle.std.proofs.Common.{List, subst}
use Rattle.apf_history.specs.declared.events.LogEntry.{LogEntry}
use Rattle.apf_model.specs.Charged.{events, IsSettled}
use Rattle.apf_line.proofs.Standing.{same_hands}
use Rattle.apf_line.proofs.Fair.{settled, named_in_log}
use Rattle.apf_line.proofs.laws.every_life_wait_is_bounded_in_seat_time.Goals as goal

pub returns-clause-own : goal.returns-clause-own
returns-clause-own c = λ k trace v costs measure later stretch earlier q r of agree is waits.
    let all = c.every_settled_log_stands.ensures.stands v.queues v.costs costs v.hands v.hands v.limit v.log (same_hands v.hands (events v.log)) (named_in_log k trace v of costs agree) (settled k trace v of) in
    let part = c.every_settled_log_balances.ensures.beginnings v.queues costs v.hands v.limit later _ (subst (λ (l : List LogEntry). IsSettled v.queues costs v.hands v.limit l) is all) in
    c.every_settled_wait_is_bounded.ensures.own v.queues costs measure v.hands v.limit stretch earlier q r part waits

pub returns-clause-others : goal.returns-clause-others
returns-clause-others c = λ k trace v costs measure slack later stretch earlier q r other of agree is measures judged waits low other_low.
    let all = c.every_settled_log_stands.ensures.stands v.queues v.costs costs v.hands v.hands v.limit v.log (same_hands v.hands (events v.log)) (named_in_log k trace v of costs agree) (settled k trace v of) in
    let part = c.every_settled_log_balances.ensures.beginnings v.queues costs v.hands v.limit later _ (subst (λ (l : List LogEntry). IsSettled v.queues costs v.hands v.limit l) is all) in
    c.every_settled_wait_is_bounded.ensures.others slack v.queues costs measure v.hands v.limit stretch earlier q r other part measures judged waits low other_low

pub returns-clause-by_seats : goal.returns-clause-by_seats
returns-clause-by_seats c = λ k trace v costs wide measure seats longest later stretch earlier q r other of agree is measures low_costs short spends seated waits low other_low.
    let all = c.every_settled_log_stands.ensures.stands v.queues v.costs costs v.hands v.hands v.limit v.log (same_hands v.hands (events v.log)) (named_in_log k trace v of costs agree) (settled k trace v of) in
    let part = c.every_settled_log_balances.ensures.beginnings v.queues costs v.hands v.limit later _ (subst (λ (l : List LogEntry). IsSettled v.queues costs v.hands v.limit l) is all) in
    c.every_settled_wait_is_bounded.ensures.by_seats seats longest v.queues wide measure costs v.hands v.limit stretch earlier q r other low_costs short part measures spends seated waits low other_low
