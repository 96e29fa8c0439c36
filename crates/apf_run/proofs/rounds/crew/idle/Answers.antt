use Rattle.std.proofs.Common.{rules, arith, ◌≡◌, ◌∷◌, ◌++◌, [], List, length, All, sym, ap, ◌∙◌, subst}
use Rattle.std.specs.Vec.Iter.{into_iter_items}
use Rattle.std.proofs.lemmas.List.{length_push}
use Rattle.std.proofs.lemmas.List.Elements.{All-rest, All-push}
use Rattle.apf_gate.specs.Tokens.{StationToken}
use Rattle.apf_session.specs.Openings.{IsNew}
use Rattle.apf_run.specs.RoundsWorkers.{Load, IsIdle}
use Rattle.apf_run.proofs.rounds.crew.idle.Goals as goal

pub loop-station-preserved : goal.loop-station-preserved
loop-station-preserved g c =
    let was = c.loop-station.invariant in
    let station : StationToken = c.in-Some.station in
    let rest : List StationToken = into_iter_items c.next.new.self in
    let step : into_iter_items c.loop-station.station-iterator ≡ station ∷ rest = search rules in
    let worker : Load = c.in_ok-new.field-0 in
    let pushed : c.push.new.self.items ≡ c.loop-station.workers.items ++ worker ∷ [] = search rules in
    let longer = ap length pushed ∙ length_push c.loop-station.workers.items worker in
    let left = ap length step in record {
      next = search rules;
      ends = search rules;
      count = omega (arith, longer, left, was.count);
      rest = All-rest (IsNew g.K.Naming.level.gate) station rest _ step was.rest;
      idle = subst (All IsIdle) (sym pushed) (All-push IsIdle c.loop-station.workers.items worker was.idle (search rules));
    }
