use Rattle.apf_lending.proofs.Divided.{division_within}
use Rattle.apf_lending.proofs.laws.every_division_is_within_bounds.Goals as goal

pub returns : goal.returns
returns c seats claims limits are is = division_within seats claims limits are is
