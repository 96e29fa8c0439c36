use Rattle.std.proofs.Common.{rules, ◌≡◌, ◌<◌, [], ◌∷◌, ◌++◌, arith, refl, sym, ap, ◌∙◌, subst, add-one}
use Rattle.atomic_table.specs.Table.{Me}
use Rattle.std.specs.Prelude.{List}
use Rattle.apf_gate.specs.declared.record.Record.{Record}
use Rattle.apf_gate.specs.declared.record.Record.TheVariants.{Station}
use Rattle.apf_gate.specs.Records.{new_station}
use Rattle.apf_gate.specs.Rule.{station_of, first_alone, without_first}
use Rattle.apf_gate.proofs.Opening.{station_dealt}
use Rattle.apf_gate.proofs.Seats.{cuts}
use Rattle.apf_gate.proofs.gate.Gate.deal_stations.Goals as goal

pub split_seat-requires : goal.split_seat-requires
split_seat-requires g c =
    let i = c.self.invariant in
    let v = c.loop-k.invariant.view in
    let below : c.loop-k._k < c.args.self.now.shape.stations = search rules in
    (search rules, omega (arith, i.has_words), cuts _ _ _ _ _ (ap (λ x. x.0) v ∙ station_dealt _ c.loop-k._k below))

pub invariant_of-station : goal.invariant_of-station
invariant_of-station g c =
    let v = c.loop-k.invariant.view in
    let shape = c.args.self.now.shape in
    let below : c.loop-k._k < shape.stations = search rules in
    let dealt : c.split_seat.result.me ≡ (Station (new_station shape c.loop-k._k) ∷ [], []) =
    c.split_seat.ensures.4 ∙ (λ k. (first_alone ((ap (λ x. x.0) v ∙ station_dealt shape c.loop-k._k below) k), [])) in
    subst (λ (x : Me (Unit {0}) (List Record)). x ≡ (Station (station_of x.0) ∷ [], [])) (sym dealt) refl

pub loop-k-preserved : goal.loop-k-preserved
loop-k-preserved g c =
    let v = c.loop-k.invariant.view in
    let shape = c.args.self.now.shape in
    let below : c.loop-k._k < shape.stations = search rules in
    let dealt : c.split_seat.result.me ≡ (Station (new_station shape c.loop-k._k) ∷ [], []) =
    c.split_seat.ensures.4 ∙ (λ k. (first_alone ((ap (λ x. x.0) v ∙ station_dealt shape c.loop-k._k below) k), [])) in
    let table : c.split_seat.result.table_id ≡ c.args.self.now.table = search rules in record {
      table = search rules;
      view = c.split_seat.ensures.2 ∙ (λ k. (without_first ((ap (λ x. x.0) v ∙ station_dealt shape c.loop-k._k below) k), (v k).1));
      stations = rw add-one (c.in_ok-push.ensures.items ∙ (λ k. c.loop-k.invariant.stations k ++ record { table = table k; station = station_of (dealt k).0 } ∷ []));
    }
