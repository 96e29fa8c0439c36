-- The flows of the standings so far.
use Rattle.std.proofs.Common.{◌≡◌, take, map}
use Rattle.apf_picture.proofs.rank.first_flows.Given as goal

abbrev pub invariant-loop-standing : goal.invariant-loop-standing
invariant-loop-standing l = l.flows.items ≡ map (λ it. it.flow) (take l.standing-index l.standings)
