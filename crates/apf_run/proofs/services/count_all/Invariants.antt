-- The events so far are counted.
use Rattle.std.proofs.Common.{◌≡◌, drop}
use Rattle.apf_run.specs.Services.{after_events}
use Rattle.apf_run.proofs.services.count_all.Given as goal

abbrev pub invariant-loop-event : goal.invariant-loop-event
invariant-loop-event l =
    after_events l.requests (drop l.event-index l.log) l.services ≡ after_events l.requests l.log l.fn.services
