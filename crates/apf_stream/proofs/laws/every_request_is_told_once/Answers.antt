use Rattle.apf_stream.proofs.Telling.{run_tied, run_once}
use Rattle.apf_stream.proofs.laws.every_request_is_told_once.Goals as goal

pub returns-clause-tied : goal.returns-clause-tied
returns-clause-tied c = run_tied

pub returns-clause-once : goal.returns-clause-once
returns-clause-once c = run_once
