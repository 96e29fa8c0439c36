-- Each Station that is left made no step, nor did those of the operators, and there are as many operators as Stations that are gone.
use Rattle.std.proofs.Common.{◌≡◌, ◌+◌, length, All}
use Rattle.apf_session.specs.Openings.{IsNew}
use Rattle.apf_session.proofs.session.operators_of.Given as goal

abbrev pub invariant-loop-station : goal.invariant-loop-station
invariant-loop-station g l =
    record {
      count : length l.operators.items + length l.stations.items ≡ length l.fn.stations.items;
      rest : All (IsNew g.K.Naming.level.gate) l.stations.items;
      new : All (IsNew g.K.Naming.level.gate) l.operators.items;
    }

abbrev pub decreases-loop-station : goal.decreases-loop-station
decreases-loop-station g l = length l.stations.items
