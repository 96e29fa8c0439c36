use Rattle.apf_explain.proofs.ConfigFaults.{config_shown}
use Rattle.apf_explain.proofs.laws.every_config_fault_is_shown.Goals as goal

pub returns : goal.returns
returns c = config_shown
