-- A log is judged alike line by line, and the estimates are exact.
use Rattle.apf_audit_reader.proofs.Short.{lines_alike, read_alike, runs_alike}
use Rattle.apf_audit_reader.proofs.laws.every_short_log_is_read_alike.Goals as goal

pub returns-clause-lines : goal.returns-clause-lines
returns-clause-lines c = lines_alike

pub returns-clause-read : goal.returns-clause-read
returns-clause-read c = read_alike

pub returns-clause-runs : goal.returns-clause-runs
returns-clause-runs c = λ size events ordered. runs_alike c.every_estimate_is_in_range.ensures.exact size 0 events ordered
