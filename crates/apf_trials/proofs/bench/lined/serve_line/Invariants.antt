-- No request comes or goes.
use Rattle.std.proofs.Common.{◌≡◌, length}
use Rattle.apf_trials.proofs.bench.lined.serve_line.Given as goal

abbrev pub invariant-loop-place : goal.invariant-loop-place
invariant-loop-place g l = length l.requests ≡ length l.fn.requests
