use Rattle.apf_matching.proofs.Shares.{nominal_sum}
use Rattle.apf_matching.proofs.laws.every_nominal_sum.Goals as goal

pub returns : goal.returns
returns c seats n levels whole = nominal_sum seats n levels whole
