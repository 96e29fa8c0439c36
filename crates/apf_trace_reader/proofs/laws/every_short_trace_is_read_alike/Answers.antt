-- A trace is judged alike line by line.
use Rattle.apf_trace_reader.proofs.Short.{read_alike}
use Rattle.apf_trace_reader.proofs.laws.every_short_trace_is_read_alike.Goals as goal

pub returns : goal.returns
returns c = read_alike
