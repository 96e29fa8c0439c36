use Rattle.apf_audit.proofs.Exact.{run_exact, run_within}
use Rattle.apf_audit.proofs.laws.every_estimate_is_in_range.Goals as goal

pub returns-clause-exact : goal.returns-clause-exact
returns-clause-exact c = run_exact

pub returns-clause-within : goal.returns-clause-within
returns-clause-within c = run_within c.every_wait_is_kept.ensures.shorter
