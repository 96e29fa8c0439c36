-- The bounds by seats, of a log that has its seats at each place.
use Rattle.std.proofs.Common.{inr, List, ◌∷◌, ◌++◌, subst}
use Rattle.apf_history.specs.declared.events.Event.TheVariants.{Enter}
use Rattle.apf_history.specs.declared.events.LogEntry.{LogEntry}
use Rattle.apf_history.specs.declared.events.LogEntry.TheVariants.{Happens}
use Rattle.apf_model.specs.World.{width}
use Rattle.apf_model.specs.Charged.{AreMeasures, SpendsWithin, HaveSeats}
use Rattle.apf_gate.specs.Traces.{opening_of, moves}
use Rattle.apf_line.proofs.Sharing.{measures_earlier, spends_earlier, seats_earlier, known_schedule, known_largest}
use Rattle.apf_line.proofs.laws.every_ended_level_shares_seat_time.Goals as goal

pub returns-clause-never_empty : goal.returns-clause-never_empty
returns-clause-never_empty c = λ k v slots stations r e costs measure seats longest later stretch earlier q other seated measured agree low narrow low_costs short spends is low_q low_other never.
    let s = k.gate.shape in
    let a = e.words_agree in
    let on = a.longest.from_desk in
    let safe = c.every_schedule_is_safe.ensures (opening_of s) (moves a.trace) a.schedule in
    let have = c.every_seated_log_has_its_seats.ensures k e.desk.knows.trace e.desk.knows.trace v costs measure seats e.of_level a.shape (known_schedule s a.trace e.desk.knows.trace on safe.beginnings)
    e.says.said seated agree (λ i charge p among. inr (measured.unsettled i charge p among)) (known_largest s a.trace e.desk.knows.trace on seats low) narrow in
    c.every_life_log_isolates.ensures.by_seats k e.desk.knows.trace v costs (width s.widths) measure seats longest later stretch earlier q other e.of_level agree is
    (measures_earlier measure later (stretch ++ earlier) (subst (AreMeasures measure) is measured.settled)) low_costs short
    (spends_earlier longest (width s.widths) later (stretch ++ earlier) (subst (SpendsWithin longest (width s.widths)) is spends))
    (seats_earlier seats (width s.widths) measure costs later (stretch ++ earlier) (subst (HaveSeats seats (width s.widths) measure costs) is have))
    low_q low_other never

pub returns-clause-waits : goal.returns-clause-waits
returns-clause-waits c = λ k v slots stations r e costs measure seats longest later stretch earlier q one other seated measured agree low narrow low_costs short spends is waits low_q low_other.
    let s = k.gate.shape in
    let a = e.words_agree in
    let on = a.longest.from_desk in
    let safe = c.every_schedule_is_safe.ensures (opening_of s) (moves a.trace) a.schedule in
    let have = c.every_seated_log_has_its_seats.ensures k e.desk.knows.trace e.desk.knows.trace v costs measure seats e.of_level a.shape (known_schedule s a.trace e.desk.knows.trace on safe.beginnings)
    e.says.said seated agree (λ i charge p among. inr (measured.unsettled i charge p among)) (known_largest s a.trace e.desk.knows.trace on seats low) narrow in
    let rest : List LogEntry = stretch ++ Happens (Enter one q) ∷ earlier in
    c.every_life_wait_is_bounded_in_seat_time.ensures.by_seats k e.desk.knows.trace v costs (width s.widths) measure seats longest later stretch earlier q one other e.of_level agree is
    (measures_earlier measure later rest (subst (AreMeasures measure) is measured.settled)) low_costs short
    (spends_earlier longest (width s.widths) later rest (subst (SpendsWithin longest (width s.widths)) is spends))
    (seats_earlier seats (width s.widths) measure costs later rest (subst (HaveSeats seats (width s.widths) measure costs) is have))
    waits low_q low_other
