-- Each is in the table of its level.
use Rattle.apf_cluster.proofs.Once.{counted_once}
use Rattle.apf_cluster.proofs.laws.every_request_is_counted_once.Goals as goal

pub returns : goal.returns
returns c = counted_once
