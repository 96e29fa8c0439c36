use Rattle.std.proofs.Common.{rules, ◌≡◌, List, [], ◌∷◌, ◌++◌, arith, sym, ap, ◌∙◌, subst}
use Rattle.apf_gate.specs.declared.record.Record.TheVariants.{Station}
use Rattle.apf_gate.specs.Rule.{Every}
use Rattle.apf_gate.specs.Tokens.{GateId, StationToken, station_gate}
use Rattle.apf_gate.specs.Ends.{stations_before}
use Rattle.apf_gate.proofs.Lists.{every_all}
use Rattle.apf_gate.proofs.Gathering.{every_front, every_last, regrouped}
use Rattle.apf_gate.proofs.Seats.{joins}
use Rattle.apf_gate.proofs.gate.Gate.gather_stations.Goals as goal

pub loop-station-init : goal.loop-station-init
loop-station-init g c = record {
  table = c.requires.table;
  own = every_all (λ (t : StationToken). station_gate t ≡ c.args.self.now) c.args.stations.items c.requires.own;
  view = ([], search rules, (λ k. (c.args.seat.me.0, c.requires.view k)));
}

pub join_seat-requires : goal.join_seat-requires
join_seat-requires g c =
    let i = c.self.invariant in
    let m = c.station.invariant in
    let own = subst (λ (l : List StationToken). Every (λ t. station_gate t ≡ c.args.self.now) l) c.in-Some.ensures.items c.loop-station.invariant.own in
    let mine = every_last (λ (t : StationToken). station_gate t ≡ c.args.self.now) c.pop.new.self.items c.in-Some.station own in
    let table = sym (ap (λ (x : GateId). x.table) c.self.view_is) in
    (c.loop-station.invariant.table ∙ table, ap (λ (t : StationToken). t.table) c.station.view_is ∙ (ap (λ (x : GateId). x.table) mine ∙ table), ap (λ x. x.1) m, omega (arith, i.has_words), rw (m) (joins _ _ _ _ _))

pub loop-station-preserved : goal.loop-station-preserved
loop-station-preserved g c =
    let m = c.station.invariant in
    let v = c.loop-station.invariant.view in
    let own = subst (λ (l : List StationToken). Every (λ t. station_gate t ≡ c.args.self.now) l) c.in-Some.ensures.items c.loop-station.invariant.own in record {
      table = search rules;
      own = every_front (λ (t : StationToken). station_gate t ≡ c.args.self.now) c.pop.new.self.items c.in-Some.station own;
      view = (
        c.in-Some.station ∷ v.0,
        regrouped c.pop.new.self.items c.in-Some.station v.0 ∙ (ap (λ l. l ++ v.0) (sym c.in-Some.ensures.items) ∙ v.1),
        c.join_seat.ensures.2 ∙ (λ k. ((m k).0 ++ (v.2 k).0, (v.2 k).1)) ∙ (λ k. (Station (c.station.view_is k).station ∷ stations_before v.0 c.args.seat.me.0, [])),
      );
    }
