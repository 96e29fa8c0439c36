-- The seats at each place, by the places of the log among the steps.
use Rattle.std.proofs.Common.{◌≡◌, ◌≤◌, sym, subst}
use Rattle.std.specs.Prelude.{List, length, map}
use Rattle.apf_history.specs.declared.events.Event.{Event}
use Rattle.apf_history.specs.Standing.{EachNames}
use Rattle.apf_model.specs.World.{width}
use Rattle.apf_model.specs.History.{NamesRequests, IsLegal}
use Rattle.apf_model.specs.Charged.{events}
use Rattle.apf_gate.specs.Traces.{opening_of, moves}
use Rattle.apf_book.specs.Said.{saying, sayings}
use Rattle.apf_line.proofs.Standing.{same_hands}
use Rattle.apf_line.proofs.Fair.{settled, named_in_log}
use Rattle.apf_line.proofs.Seating.{have_seats, held_of}
use Rattle.apf_line.proofs.laws.every_seated_log_has_its_seats.Goals as goal

pub returns : goal.returns
returns c = λ k known trace v costs measure seats of shape schedule said seated agree ends low narrow.
    let s = k.gate.shape in
    let safe = c.every_schedule_is_safe.ensures (opening_of s) (moves trace) schedule in
    let stands = c.every_settled_log_stands.ensures.stands v.queues v.costs costs v.hands v.hands v.limit v.log (same_hands v.hands (events v.log)) (named_in_log k known v of costs agree) (settled k known v of) in
    let legal : IsLegal v.hands v.limit (events v.log) = stands.0 in
    let laws = c.every_legal_history_is_in_order.ensures in
    have_seats s trace schedule
    (λ later earlier is. (let begun = safe.beginnings later earlier is in (begun, (c.every_schedule_is_safe.ensures (opening_of s) earlier begun).alone shape.widths)))
    v.queues costs measure seats v.log
    (subst (λ (h : List Event). map saying h ≡ sayings trace) (sym of.events_are) said)
    stands.1
    (λ h newer is r. (laws.order v.hands v.limit h (laws.beginnings v.hands v.limit newer h (subst (IsLegal v.hands v.limit) (sym is) legal))).dispatched_once r)
    (subst (NamesRequests (length s.widths)) (sym of.events_are) of.names_requests)
    (held_of costs s trace v.log seated)
    ends
    low
    (subst (EachNames (λ r. width s.widths r ≤ seats)) (sym of.events_are) narrow)
