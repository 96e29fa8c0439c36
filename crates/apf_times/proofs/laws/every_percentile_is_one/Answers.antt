-- Two percentiles of the same waits are one.
use Rattle.apf_times.proofs.NearestRank.{percentile_unique}
use Rattle.apf_times.proofs.laws.every_percentile_is_one.Goals as goal

pub returns : goal.returns
returns c = record { one = percentile_unique }
