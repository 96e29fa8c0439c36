-- Each call goes to a lower number.
use Rattle.apf_least.proofs.tree.+first_round.Given as goal

abbrev pub decreases-first_round : goal.decreases-first_round
decreases-first_round l = l.node
