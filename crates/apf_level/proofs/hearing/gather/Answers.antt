use Rattle.std.proofs.Common.{rules, ◌≡◌, ◌∷◌, ◌++◌, [], List, sym, ap, ◌∙◌, subst, map, All}
use Rattle.std.specs.Vec.Iter.{into_iter_items}
use Rattle.std.proofs.lemmas.List.{append_assoc, map_push}
use Rattle.std.proofs.lemmas.List.Elements.{All-push, All-rest}
use Rattle.apf_gate.specs.Tokens.{PassToken, pass_gate}
use Rattle.apf_level.specs.UnderLock.{desk_in}
use Rattle.apf_level.specs.Tokens.{IsDone}
use Rattle.apf_level.specs.Heard.{Outcome, IsHeard, GoOnFrom, outcome_of}
use Rattle.apf_level.proofs.Following.{one_more}
use Rattle.apf_level.proofs.hearing.gather.Goals as goal

pub loop-done-preserved : goal.loop-done-preserved
loop-done-preserved g c =
    let was = c.loop-done.invariant in
    let done : PassToken = c.in-Some.done in
    let pass : PassToken = c.hear-pass.result in
    let items : List PassToken = c.loop-done.passes.items in
    let rest : List PassToken = into_iter_items c.next.new.self in
    let step : into_iter_items c.loop-done.done-iterator ≡ done ∷ rest = search rules in
    let pushed : c.push.new.self.items ≡ items ++ pass ∷ [] = search rules in
    let before : List Outcome = map outcome_of items in
    let later : List Outcome = map outcome_of rest in
    let desk = (desk_in c.hear-pass.new.under_lock).desk in
    record {
      all = ap (λ (l : List PassToken). map outcome_of l ++ later) pushed
          ∙ (ap (λ (l : List Outcome). l ++ later) (map_push outcome_of items pass)
          ∙ (append_assoc before (outcome_of pass ∷ []) later
          ∙ (ap (λ (o : Outcome). before ++ o ∷ later) c.hear-pass.ensures.same
          ∙ (ap (λ (l : List PassToken). before ++ map outcome_of l) (sym step) ∙ was.all))));
      under_lock = c.hear-pass.ensures.under_lock;
      rest = All-rest (λ (t : PassToken). pass_gate t ≡ g.K.Naming.level.gate) done _ _ step was.rest;
      done = subst (All IsDone) (sym pushed) (All-push IsDone items pass was.done c.hear-pass.ensures.done);
      heard = subst (All (IsHeard desk)) (sym pushed) (All-push (IsHeard desk) items pass (λ k d low. c.hear-pass.ensures.stays _ (was.done k d low).told (was.heard k d low)) c.hear-pass.ensures.heard);
      go_on = subst (λ (l : List PassToken). GoOnFrom c.args.dones.items l rest) (sym pushed) (one_more c.args.dones.items items rest done pass (subst (GoOnFrom c.args.dones.items items) step was.go_on) c.hear-pass.ensures.goes_on);
    }
