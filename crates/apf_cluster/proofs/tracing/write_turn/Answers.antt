-- One line was written, and the next request is read.
use Rattle.apf_audit.specs.AuditEvent.{event}
use Rattle.apf_joined_reader.specs.Reading.{inputs}
use Rattle.apf_cluster.proofs.HandedOut.{more_fed}
use Rattle.apf_cluster.proofs.tracing.write_turn.Goals as goal

pub returns-clause-fed : goal.returns-clause-fed
returns-clause-fed g c = λ was told fed.
    more_fed c.args.choice.now was (inputs (g.R.Read.remaining c.args.input.now) (g.S.Read.remaining c.args.lines.now)) (inputs (g.R.Read.remaining c.next.new.input) (g.S.Read.remaining c.next.new.lines)) told (event c.args.taken) c.in_ok-next.field-0 c.args.reader.now c.next.new.self c.in_ok-next.ensures.answers fed
