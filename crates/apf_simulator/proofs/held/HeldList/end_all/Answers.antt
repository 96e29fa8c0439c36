-- One more was told.
use Rattle.std.proofs.Common.{List, [], ◌∷◌, ◌++◌, take, get_or, ap, ◌∙◌, subst, append_assoc}
use Rattle.apf_stream.specs.declared.ended.Ended.{Ended}
use Rattle.apf_simulator.specs.Hearing.{AreHeld}
use Rattle.apf_simulator.proofs.Holding.{one_more, take_one, take_past}
use Rattle.apf_simulator.proofs.held.HeldList.end_all.Goals as goal

pub loop-ended-preserved : goal.loop-ended-preserved
loop-ended-preserved c =
    let k = c.loop-ended.ended-index in
    let ends = c.args.ends.now in
    record {
      held = λ came told held.
          subst (λ (l : List Ended). AreHeld came l c.end.new.self) (append_assoc told (take k ends) (get_or ends k _ ∷ []) ∙ ap (λ (l : List Ended). told ++ l) (take_one ends k _ c.loop-ended-test.true))
          (one_more came (told ++ take k ends) _ c.loop-ended.self c.end.new.self c.in_ok-end.ensures (c.loop-ended.invariant.held came told held));
    }

pub returns : goal.returns
returns c came told held =
    subst (λ (l : List Ended). AreHeld came (told ++ l) c.loop-ended.self) (take_past c.args.ends.now c.loop-ended.ended-index c.loop-ended-test.false) (c.loop-ended.invariant.held came told held)
