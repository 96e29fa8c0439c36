use Rattle.std.proofs.Common.{rules, ◌≡◌, ◌∷◌, ◌++◌, [], List, map, sym, ap, ◌∙◌, subst}
use Rattle.std.specs.Vec.Iter.{into_iter_items}
use Rattle.std.proofs.lemmas.List.{append_assoc}
use Rattle.std.proofs.lemmas.List.Elements.{All-rest, All-push}
use Rattle.apf_gate.specs.Tokens.{PassToken, pass_gate}
use Rattle.apf_session.specs.declared.life.token.Token.{Token}
use Rattle.apf_session.specs.declared.life.answer.Place.TheVariants as places
use Rattle.apf_session.specs.LifeRequests.{place_of, free_slot, AreFree}
use Rattle.apf_session.proofs.life.session.requests_of.Goals as goal

pub loop-done-preserved : goal.loop-done-preserved
loop-done-preserved g c =
    let was = c.loop-done.invariant in
    let done : PassToken = c.in-Some.done in
    let request : Token = c.new.result in
    let items : List Token = c.loop-done.requests.items in
    let rest : List PassToken = into_iter_items c.next.new.self in
    let step : into_iter_items c.loop-done.done-iterator ≡ done ∷ rest = search rules in
    let pushed : c.push.new.self.items ≡ items ++ request ∷ [] = search rules in
    let free : place_of request ≡ places.Free = ap place_of c.new.ensures.free in
    record {
      next = search rules;
      ends = search rules;
      all = ap (λ (l : List Token). l ++ map free_slot rest) pushed
          ∙ (append_assoc items (request ∷ []) (map free_slot rest)
          ∙ (ap (λ (t : Token). items ++ t ∷ map free_slot rest) c.new.ensures.free
          ∙ (ap (λ (l : List PassToken). items ++ map free_slot l) (sym step) ∙ was.all)));
      own = All-rest (λ (t : PassToken). pass_gate t ≡ g.K.Naming.level.gate) done rest _ step was.own;
      free = subst AreFree (sym pushed) (All-push (λ (t : Token). place_of t ≡ places.Free) items request was.free free);
    }
