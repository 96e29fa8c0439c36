-- Nothing was read yet.
use Rattle.apf_trace_reader.proofs.Starts.{nothing_read}
use Rattle.apf_trace_reader.proofs.reader.TraceReader.new.Goals as goal

pub returns-clause-nothing : goal.returns-clause-nothing
returns-clause-nothing c = λ left. nothing_read left c.in_ok-new.field-0 c.new-3.result c.in_ok-new.ensures c.new-3.ensures.held c.new-3.ensures.last
