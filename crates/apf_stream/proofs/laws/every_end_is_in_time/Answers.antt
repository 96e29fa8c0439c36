use Rattle.apf_stream.proofs.Timing.{are_over, goes_forward}
use Rattle.apf_stream.proofs.laws.every_end_is_in_time.Goals as goal

pub returns-clause-forward : goal.returns-clause-forward
returns-clause-forward c = goes_forward

pub returns-clause-over : goal.returns-clause-over
returns-clause-over c = are_over
