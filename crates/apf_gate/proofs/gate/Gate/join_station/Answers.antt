use Rattle.std.proofs.Common.{◌≡◌, [], ◌∷◌, arith, refl, sym, ap, ◌∙◌}
use Rattle.apf_gate.specs.declared.record.Record.TheVariants.{Station}
use Rattle.apf_gate.specs.Rule.{station_of, first_alone}
use Rattle.apf_gate.specs.Tokens.{GateId}
use Rattle.apf_gate.proofs.Seats.{cuts, joins}
use Rattle.apf_gate.proofs.gate.Gate.join_station.Goals as goal

pub split_seat-lent-requires : goal.split_seat-lent-requires
split_seat-lent-requires g c =
    let i = c.self.invariant in
    let m = c.requires.station in
    (m.same_table ∙ sym (ap (λ (x : GateId). x.table) c.self.view_is), omega (arith, i.has_words), rw (m.alone) (cuts _ _ _ (Station (station_of c.args.station.now.me.0)) [] refl))

pub join_seat-requires : goal.join_seat-requires
join_seat-requires g c =
    let i = c.self.invariant in
    let d = c.requires.desk in
    let p = c.requires.station in
    let table = sym (ap (λ (x : GateId). x.table) c.self.view_is) in
    let lent : c.split_seat-lent.result.me ≡ (Station (station_of c.args.station.now.me.0) ∷ [], []) = c.split_seat-lent.ensures.4 ∙ (λ k. (first_alone (p.alone k).0, [])) in
    (d.same_table ∙ table, c.split_seat-lent.ensures.3 ∙ (p.same_table ∙ table), ap (λ x. x.1) lent, omega (arith, i.has_words), rw (lent, d.alone) (joins _ _ _ _ _))
