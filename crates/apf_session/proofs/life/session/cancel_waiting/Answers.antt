-- One attempt more.
use Rattle.std.proofs.Common.{[], ◌∷◌, refl, subst, ◌∙◌}
use Rattle.apf_session.specs.LifeEnds.{AttemptsToCancel, CancelsThese, is_waiting, waiting}
use Rattle.apf_session.specs.LifeRequests.{number_in, place_of}
use Rattle.apf_session.specs.declared.life.token.Token.{Token}
use Rattle.apf_session.proofs.Attempts.{at_place}
use Rattle.apf_session.proofs.life.session.cancel_waiting.Goals as goal

pub loop-request-init : goal.loop-request-init
loop-request-init g c = record { number = refl; cancels = λ s more. more }

pub loop-request-preserved : goal.loop-request-preserved
loop-request-preserved g c =
    let a = c.loop-request.operator.station in
    let b = c.cancel_if_waiting.new.operator.station in
    let item = c.request-item in
    record {
      number = c.cancel_if_waiting.ensures.number ∙ c.loop-request.invariant.number;
      cancels = λ s more. c.loop-request.invariant.cancels s (at_place (λ (t : Token). is_waiting (place_of t)) number_in AttemptsToCancel
          c.args.requests.now c.loop-request.request-index item.result a b s c.loop-request-test.true
          (subst (λ (r : Token). CancelsThese (waiting (r ∷ [])) a b) item.is c.cancel_if_waiting.ensures.cancels) more);
    }
