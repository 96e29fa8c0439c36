use Rattle.apf_explain.proofs.ScriptFaults.{script_shown}
use Rattle.apf_explain.proofs.laws.every_script_fault_is_shown.Goals as goal

pub returns : goal.returns
returns c = script_shown
