-- Nothing was read yet.
use Rattle.apf_audit_reader.proofs.Ends.{nothing_read}
use Rattle.apf_audit_reader.proofs.reader.AuditReader.new.Goals as goal

pub returns-clause-nothing : goal.returns-clause-nothing
returns-clause-nothing c = λ choice left. nothing_read choice left c.in_ok-new.field-0 c.new-2.result c.new-3.result c.in_ok-new.ensures c.new-2.ensures.held c.new-2.ensures.last c.new-3.ensures
