-- Each turn has one less that is owed.
use Rattle.std.proofs.Common.{length}
use Rattle.apf_level_tests.proofs.debts.Debts.spend.Given as goal

abbrev pub invariant-loop-owed : goal.invariant-loop-owed
invariant-loop-owed g l = Unit {0}

abbrev pub decreases-loop-owed : goal.decreases-loop-owed
decreases-loop-owed g l = length l.dispatches.items

abbrev pub invariant-loop-owed-2 : goal.invariant-loop-owed-2
invariant-loop-owed-2 g l = Unit {0}

abbrev pub decreases-loop-owed-2 : goal.decreases-loop-owed-2
decreases-loop-owed-2 g l = length l.strikes.items
