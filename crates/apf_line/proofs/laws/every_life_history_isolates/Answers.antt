use Rattle.std.proofs.Common.{List, subst}
use Rattle.apf_history.specs.declared.events.Event.{Event}
use Rattle.apf_model.specs.Fair.{IsFair}
use Rattle.apf_line.proofs.Standing.{same_hands}
use Rattle.apf_line.proofs.Fair.{fair_if_unsettled}
use Rattle.apf_line.proofs.laws.every_life_history_isolates.Goals as goal

pub returns : goal.returns
returns c = λ k trace v costs later stretch earlier q other of same agree is low other_low never.
    let fair = c.every_fair_history_stands.ensures v.queues v.costs costs v.hands v.hands v.limit v.history (same_hands v.hands v.history) agree (fair_if_unsettled k trace v of c.every_unsettled_log_is_fair.ensures.fair same) in
    c.every_fair_history_isolates.ensures.isolated v.queues costs v.hands v.limit later stretch earlier q other (subst (λ (h : List Event). IsFair v.queues costs v.hands v.limit h) is fair) low other_low never
