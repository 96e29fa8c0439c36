-- At each place so far someone waits.
use Rattle.std.proofs.Common.{◌≢◌, ℕ, ◌<◌, [], drop}
use Rattle.apf_history.specs.History.{waiting}
use Rattle.apf_plain.proofs.stretch.is_never_empty.Given as goal

abbrev pub invariant-loop-newer : goal.invariant-loop-newer
invariant-loop-newer l = (k : ℕ) → k < l.newer → waiting (drop k l.history) l.queue ≢ []
