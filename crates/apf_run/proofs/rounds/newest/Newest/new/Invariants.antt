-- As many places as slots so far.
use Rattle.std.proofs.Common.{◌≡◌, length}
use Rattle.apf_run.proofs.rounds.newest.Newest.new.Given as goal

abbrev pub invariant-loop-slot : goal.invariant-loop-slot
invariant-loop-slot g l = length l.rounds.items ≡ l._slot
