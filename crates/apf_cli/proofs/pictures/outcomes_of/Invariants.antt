-- An outcome for each end so far.
use Rattle.std.proofs.Common.{◌≡◌, vec_len}
use Rattle.apf_cli.proofs.pictures.outcomes_of.Given as goal

abbrev pub invariant-loop-ended : goal.invariant-loop-ended
invariant-loop-ended l = vec_len l.outcomes ≡ l.ended-index
