-- Each kind of call by its slots.
use Rattle.apf_local.proofs.Seats.{arrival_seated, renewal_seated, renewed_seated, try_seated, reading_seated, finishing_seated, stays_seated, idle_seated}
use Rattle.apf_local.proofs.laws.every_call_keeps_seats.Goals as goal

pub returns-clause-arrives : goal.returns-clause-arrives
returns-clause-arrives c = arrival_seated

pub returns-clause-renews : goal.returns-clause-renews
returns-clause-renews c = renewal_seated

pub returns-clause-arrives_renewed : goal.returns-clause-arrives_renewed
returns-clause-arrives_renewed c = renewed_seated

pub returns-clause-tries : goal.returns-clause-tries
returns-clause-tries c = try_seated

pub returns-clause-reads : goal.returns-clause-reads
returns-clause-reads c = reading_seated

pub returns-clause-finishes : goal.returns-clause-finishes
returns-clause-finishes c = finishing_seated

pub returns-clause-stays : goal.returns-clause-stays
returns-clause-stays c = stays_seated

pub returns-clause-idle : goal.returns-clause-idle
returns-clause-idle c = λ l log free seated. idle_seated l free log seated
