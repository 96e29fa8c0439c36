-- The request of the line is too late.
use Rattle.std.proofs.Common.{◌≡◌, Ok, Some, inr, ap, ◌∙◌, rules}
use Rattle.apf_audit.specs.AuditEvent.{event_in}
use Rattle.apf_audit_reader.proofs.given.take_line.Goals as goal

pub returns-in-Err-clause-err : goal.returns-in-Err-clause-err
returns-in-Err-clause-err c = λ other.
    let late = c.in-Err.ensures.err other in
    inr (record {
      taken = c.in-Chosen.taken;
      judged = c.in_ok-taken.ensures.ok ∙ ap (λ o. Ok (event_in o)) c.in-Chosen.is;
      late = late.1;
      is = late.0;
    })
