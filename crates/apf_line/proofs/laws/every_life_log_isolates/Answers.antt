-- The law of every settled log, of a stretch of one and of the costs of those that it names.
use Rattle.std.proofs.Common.{List, subst}
use Rattle.apf_history.specs.declared.events.LogEntry.{LogEntry}
use Rattle.apf_model.specs.Charged.{events, IsSettled}
use Rattle.apf_line.proofs.Standing.{same_hands}
use Rattle.apf_line.proofs.Fair.{settled, named_in_log}
use Rattle.apf_line.proofs.laws.every_life_log_isolates.Goals as goal

pub returns-clause-isolated : goal.returns-clause-isolated
returns-clause-isolated c = λ k trace v costs measure slack later stretch earlier q other of agree is measures judged low other_low never.
    let all = c.every_settled_log_stands.ensures.stands v.queues v.costs costs v.hands v.hands v.limit v.log (same_hands v.hands (events v.log)) (named_in_log k trace v of costs agree) (settled k trace v of) in
    let part = c.every_settled_log_balances.ensures.beginnings v.queues costs v.hands v.limit later _ (subst (λ (l : List LogEntry). IsSettled v.queues costs v.hands v.limit l) is all) in
    c.every_settled_log_isolates.ensures.isolated slack v.queues costs measure v.hands v.limit stretch earlier q other part measures judged low other_low never

pub returns-clause-by_seats : goal.returns-clause-by_seats
returns-clause-by_seats c = λ k trace v costs wide measure seats longest later stretch earlier q other of agree is measures low_costs short spends seated low other_low never.
    let all = c.every_settled_log_stands.ensures.stands v.queues v.costs costs v.hands v.hands v.limit v.log (same_hands v.hands (events v.log)) (named_in_log k trace v of costs agree) (settled k trace v of) in
    let part = c.every_settled_log_balances.ensures.beginnings v.queues costs v.hands v.limit later _ (subst (λ (l : List LogEntry). IsSettled v.queues costs v.hands v.limit l) is all) in
    c.every_settled_log_isolates.ensures.by_seats seats longest v.queues wide measure costs v.hands v.limit stretch earlier q other low_costs short part measures spends seated low other_low never
