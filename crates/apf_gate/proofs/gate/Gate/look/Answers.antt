use Rattle.std.proofs.Common.{rules, arith}
use Rattle.apf_gate.proofs.StationSteps.{station_loads_level}
use Rattle.apf_gate.proofs.gate.Gate.look.Goals as goal

pub load-requires : goal.load-requires
load-requires g c =
    let i = c.self.invariant in
    (search rules, omega (arith, i.has_words), rw (i.same_key, c.station.invariant) (station_loads_level _ i.shape i.laws _ _ _))
