-- As many empty sets as there were turns.
use Rattle.std.proofs.Common.{◌≡◌, List, []}
use Rattle.std.specs.Prelude.{replicate}
use Rattle.apf_charges.specs.declared.known.Known.{Known}
use Rattle.apf_charges.proofs.means.Means.new.Given as goal

abbrev pub invariant-loop-set : goal.invariant-loop-set
invariant-loop-set g l = l.sets.items ≡ replicate {A = List Known} l._set []
