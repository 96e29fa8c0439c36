use Rattle.apf_stream.proofs.Chains.{ran_under}
use Rattle.apf_stream.proofs.laws.every_run_goes_on.Goals as goal

pub returns : goal.returns
returns c = ran_under
