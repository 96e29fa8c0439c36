use Rattle.std.proofs.Common.{rules, ◌≡◌, ◌∷◌, ◌++◌, [], List, sym, ap, ◌∙◌}
use Rattle.std.specs.Vec.Iter.{into_iter_items}
use Rattle.std.proofs.lemmas.List.{append_assoc}
use Rattle.std.proofs.lemmas.List.Elements.{All-rest}
use Rattle.apf_gate.specs.Tokens.{PassToken}
use Rattle.apf_line.specs.Tokens.{IsDone}
use Rattle.apf_run.proofs.rounds.finished.add_all.Goals as goal

pub loop-slot-preserved : goal.loop-slot-preserved
loop-slot-preserved c =
    let was = c.loop-slot.invariant in
    let slot : PassToken = c.in-Some.slot in
    let done : PassToken = c.of.result in
    let items : List PassToken = c.loop-slot.dones.items in
    let rest : List PassToken = into_iter_items c.next.new.self in
    let step : into_iter_items c.loop-slot.slot-iterator ≡ slot ∷ rest = search rules in
    let pushed : c.push.new.self.items ≡ items ++ done ∷ [] = search rules in
    record {
      next = search rules;
      ends = search rules;
      all = ap (λ (l : List PassToken). l ++ rest) pushed
          ∙ (append_assoc items (done ∷ []) rest
          ∙ (ap (λ (t : PassToken). items ++ t ∷ rest) c.of.ensures
          ∙ (ap (λ (l : List PassToken). items ++ l) (sym step) ∙ was.all)));
      over = All-rest IsDone slot rest _ step was.over;
    }
