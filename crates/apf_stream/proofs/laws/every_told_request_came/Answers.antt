use Rattle.apf_stream.proofs.Coming.{are_there, are_told}
use Rattle.apf_stream.proofs.laws.every_told_request_came.Goals as goal

pub returns-clause-told : goal.returns-clause-told
returns-clause-told c = are_told

pub returns-clause-there : goal.returns-clause-there
returns-clause-there c = are_there
