use Rattle.apf_audit.proofs.Lengths.{line_length}
use Rattle.apf_audit.proofs.laws.every_trace_fits.Goals as goal

pub returns : goal.returns
returns c = line_length
