use Rattle.std.proofs.Common.{rules, ◌≡◌, ◌∷◌, ◌++◌, [], List, sym, ap, ◌∙◌}
use Rattle.std.specs.Vec.Iter.{into_iter_items}
use Rattle.std.proofs.lemmas.List.{append_assoc}
use Rattle.std.proofs.lemmas.List.Elements.{All-rest}
use Rattle.apf_gate.specs.Tokens.{StationToken, station_gate}
use Rattle.apf_session.proofs.life.session.operators_of.Goals as goal

pub loop-station-preserved : goal.loop-station-preserved
loop-station-preserved g c =
    let was = c.loop-station.invariant in
    let station : StationToken = c.in-Some.station in
    let operator : StationToken = c.new.result in
    let items : List StationToken = c.loop-station.operators.items in
    let rest : List StationToken = into_iter_items c.next.new.self in
    let step : into_iter_items c.loop-station.station-iterator ≡ station ∷ rest = search rules in
    let pushed : c.push.new.self.items ≡ items ++ operator ∷ [] = search rules in
    record {
      all = ap (λ (l : List StationToken). l ++ rest) pushed
          ∙ (append_assoc items (operator ∷ []) rest
          ∙ (ap (λ (t : StationToken). items ++ t ∷ rest) c.new.ensures
          ∙ (ap (λ (l : List StationToken). items ++ l) (sym step) ∙ was.all)));
      own = All-rest (λ (t : StationToken). station_gate t ≡ g.K.Naming.level.gate) station _ _ step was.own;
    }
