use Rattle.std.proofs.Common.{rules, ◌≡◌, ◌∷◌, ◌++◌, [], List, sym, ap, ◌∙◌}
use Rattle.std.specs.Vec.Iter.{into_iter_items}
use Rattle.std.proofs.lemmas.List.{append_assoc}
use Rattle.std.proofs.lemmas.List.Elements.{All-rest}
use Rattle.apf_gate.specs.declared.record.State.TheVariants.{Fresh}
use Rattle.apf_gate.specs.Tokens.{PassToken}
use Rattle.apf_level.proofs.life.level.unheld.Goals as goal

pub loop-pass-preserved : goal.loop-pass-preserved
loop-pass-preserved c =
    let was = c.loop-pass.invariant in
    let pass : PassToken = c.in-Some.pass in
    let items : List PassToken = c.loop-pass.slots.items in
    let rest : List PassToken = into_iter_items c.next.new.self in
    let step : into_iter_items c.loop-pass.pass-iterator ≡ pass ∷ rest = search rules in
    let pushed : c.push.new.self.items ≡ items ++ pass ∷ [] = search rules in
    record {
      all = ap (λ (l : List PassToken). l ++ rest) pushed
          ∙ (append_assoc items (pass ∷ []) rest
          ∙ (ap (λ (l : List PassToken). items ++ l) (sym step) ∙ was.all));
      fresh = All-rest (λ (t : PassToken). t.pass.state ≡ Fresh) pass _ _ step was.fresh;
    }
