use Rattle.std.proofs.Common.{sym, ap, ◌∙◌, arith}
use Rattle.apf_gate.specs.Tokens.{GateId}
use Rattle.apf_gate.proofs.StationJoined.{station_and_desk_load_level}
use Rattle.apf_gate.proofs.gate.Gate.load_with_station.Goals as goal

pub load-requires : goal.load-requires
load-requires g c =
    let i = c.self.invariant in
    let m = c.requires.own in
    let table = m.same_table ∙ sym (ap (λ (x : GateId). x.table) c.self.view_is) in
    (table, omega (arith, i.has_words), rw (i.same_key, m.both) (station_and_desk_load_level _ i.shape i.laws _ _ _ _))
