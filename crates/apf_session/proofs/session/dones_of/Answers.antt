-- The last request's Pass is put behind those of the requests that came after it.
use Rattle.std.proofs.Common.{rules, subst, sym, List, ℕ, ◌≡◌, ◌-◌, ◌<◌, ◌≤◌, length, get_or, All}
use Rattle.std.proofs.lemmas.List.Elements.{All-push}
use Rattle.apf_gate.specs.Tokens.{PassToken, pass_gate}
use Rattle.apf_session.specs.Requests.{RequestView, IsLeftOf}
use Rattle.apf_session.proofs.Leaving.{rest_still, left_more}
use Rattle.apf_session.proofs.session.dones_of.Goals as goal

pub loop-request-preserved : goal.loop-request-preserved
loop-request-preserved g c =
    let all : List RequestView = c.args.requests.items in
    let left = left_more all c.loop-request.requests.items c.pop.new.self.items c.in-Some.request c.loop-request.dones.items c.end.result
    c.in-Some.ensures.items c.loop-request.invariant.count c.loop-request.invariant.rest
    (record { number = c.end.ensures.number; told = c.end.ensures.told }) c.loop-request.invariant.left in
    record {
      count = search rules;
      own = subst (All (λ (t : PassToken). pass_gate t ≡ g.K.Naming.level.gate)) (sym c.in_default-push.ensures.items)
          (All-push (λ (t : PassToken). pass_gate t ≡ g.K.Naming.level.gate) c.loop-request.dones.items c.end.result c.loop-request.invariant.own c.end.ensures.own);
      rest = rest_still all c.loop-request.requests.items c.pop.new.self.items c.in-Some.request c.loop-request.dones.items c.end.result
          c.in-Some.ensures.items c.loop-request.invariant.count c.loop-request.invariant.rest;
      left = subst (λ (l : List PassToken). (i : ℕ) (d : RequestView) (e : PassToken) → length c.pop.new.self.items ≤ i → i < length all → IsLeftOf (get_or all i d) (get_or l (length all - 1 - i) e))
          (sym c.in_default-push.ensures.items) left;
    }
