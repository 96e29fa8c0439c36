-- Each Station that is left is the level's.
use Rattle.std.proofs.Common.{◌≡◌, length, All}
use Rattle.apf_gate.specs.Tokens.{station_gate}
use Rattle.apf_trials.proofs.levels.stress.crew.idle.Given as goal

abbrev pub invariant-loop-station : goal.invariant-loop-station
invariant-loop-station g l = All (λ t. station_gate t ≡ g.K.Naming.level.gate) l.stations.items

abbrev pub decreases-loop-station : goal.decreases-loop-station
decreases-loop-station g l = length l.stations.items
