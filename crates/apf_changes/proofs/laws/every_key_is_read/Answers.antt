use Rattle.apf_changes.proofs.Written.{key_is_read}
use Rattle.apf_changes.proofs.laws.every_key_is_read.Goals as goal

pub returns : goal.returns
returns c name setting value plain single = key_is_read name setting value plain single
