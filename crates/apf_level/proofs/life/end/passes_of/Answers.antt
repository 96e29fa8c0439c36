use Rattle.std.proofs.Common.{rules, ◌≡◌, ◌∷◌, ◌++◌, [], List, sym, ap, ◌∙◌, subst, All}
use Rattle.std.specs.Vec.Iter.{into_iter_items}
use Rattle.std.proofs.lemmas.List.{append_assoc}
use Rattle.std.proofs.lemmas.List.Elements.{All-push}
use Rattle.apf_gate.specs.Tokens.{PassToken}
use Rattle.apf_line.specs.Tokens.{IsDone}
use Rattle.apf_level.proofs.life.end.passes_of.Goals as goal

pub loop-slot-preserved : goal.loop-slot-preserved
loop-slot-preserved c =
    let was = c.loop-slot.invariant in
    let slot : PassToken = c.in-Some.slot in
    let pass : PassToken = c.into_pass.result in
    let items : List PassToken = c.loop-slot.passes.items in
    let rest : List PassToken = into_iter_items c.next.new.self in
    let step : into_iter_items c.loop-slot.slot-iterator ≡ slot ∷ rest = search rules in
    let pushed : c.push.new.self.items ≡ items ++ pass ∷ [] = search rules in
    record {
      all = ap (λ (l : List PassToken). l ++ rest) pushed
          ∙ (append_assoc items (pass ∷ []) rest
          ∙ (ap (λ (t : PassToken). items ++ t ∷ rest) c.into_pass.ensures.same
          ∙ (ap (λ (l : List PassToken). items ++ l) (sym step) ∙ was.all)));
      done = subst (All IsDone) (sym pushed) (All-push IsDone items pass was.done c.into_pass.ensures.done);
    }
