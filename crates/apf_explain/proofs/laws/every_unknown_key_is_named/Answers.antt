use Rattle.apf_explain.proofs.Unknown.{unknown_named}
use Rattle.apf_explain.proofs.laws.every_unknown_key_is_named.Goals as goal

pub returns : goal.returns
returns c = unknown_named
