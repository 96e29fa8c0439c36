-- The history gets shorter.
use Rattle.std.proofs.Common.{length}
use Rattle.apf_plain.proofs.fair.+dispatches_choices.Given as goal

abbrev pub decreases-dispatches_choices : goal.decreases-dispatches_choices
decreases-dispatches_choices l = length l.history.now
