-- A slot of which no request came asks nothing of its worker.
use Rattle.std.proofs.Common.{rules, ◌≡◌, ◌∷◌, ◌++◌, [], List, All, sym, subst}
use Rattle.std.proofs.lemmas.List.Elements.{All-push}
use Rattle.apf_files.specs.declared.requests.Request.{Request}
use Rattle.apf_gate.specs.Tokens.{GateId, PassToken, StationToken, pass_gate}
use Rattle.apf_line.specs.Tokens.{IsDone}
use Rattle.apf_session.specs.LifeOpenings.{IsFirstOf}
use Rattle.apf_run.specs.RoundsWorkers.{IsKnown, HasAsked}
use Rattle.apf_run.proofs.Known.{first_known, first_asked}
use Rattle.apf_run.proofs.rounds.worker.Worker.add.Goals as goal

pub invariant_of-self-2 : goal.invariant_of-self-2
invariant_of-self-2 g c =
    let gate : GateId = g.K.Naming.level.gate in
    let requests : List Request = g.K.Plan.requests in
    let station : StationToken = c.self.inside.operator in
    let items : List PassToken = c.self.inside.slots.items in
    let slot : PassToken = c.into_pass.result in
    let was = c.self.invariant in
    let pushed : c.push.new.self.items ≡ items ++ slot ∷ [] = search rules in
    let first : IsFirstOf gate slot = subst (IsFirstOf gate) (sym c.into_pass.ensures.same) c.requires.first in
    record {
      faithful = was.faithful;
      own = subst (All (λ (t : PassToken). pass_gate t ≡ gate)) (sym pushed) (All-push (λ (t : PassToken). pass_gate t ≡ gate) items slot was.own first.0);
      done = subst (All IsDone) (sym pushed) (All-push IsDone items slot was.done c.into_pass.ensures.done);
      known = subst (All (IsKnown requests station)) (sym pushed) (All-push (IsKnown requests station) items slot was.known (first_known requests station slot first.1));
      asked = subst (All (HasAsked requests)) (sym pushed) (All-push (HasAsked requests) items slot was.asked (first_asked requests slot first.1));
    }
