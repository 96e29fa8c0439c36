use Rattle.std.proofs.Common.{[], ◌∷◌, arith, refl, sym, ap, ◌∙◌}
use Rattle.apf_gate.specs.declared.record.Record.TheVariants.{Station, Desk}
use Rattle.apf_gate.specs.Tokens.{GateId}
use Rattle.apf_gate.specs.StationJoined.{station_and_desk_at}
use Rattle.apf_gate.proofs.Seats.{cuts}
use Rattle.apf_gate.proofs.gate.Gate.part_station.Goals as goal

pub split_seat-requires : goal.split_seat-requires
split_seat-requires g c =
    let i = c.self.invariant in
    let both = station_and_desk_at c.args.desk.now.me in
    (c.requires.table ∙ sym (ap (λ (x : GateId). x.table) c.self.view_is), omega (arith, i.has_words), rw (c.requires.both) (cuts _ _ _ (Station both.station) (Desk both.desk ∷ []) refl))
