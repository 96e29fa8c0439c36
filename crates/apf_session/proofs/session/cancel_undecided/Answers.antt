-- One attempt more.
use Rattle.std.proofs.Common.{[], ◌∷◌, refl, subst, ◌∙◌}
use Rattle.apf_session.specs.Ends.{AttemptsToCancel, CancelsThese, is_undecided, undecided}
use Rattle.apf_session.specs.Requests.{RequestView, place_of}
use Rattle.apf_session.proofs.Attempts.{at_place}
use Rattle.apf_session.proofs.session.cancel_undecided.Goals as goal

pub loop-request-init : goal.loop-request-init
loop-request-init g c = record { number = refl; cancels = λ s more. more }

pub loop-request-preserved : goal.loop-request-preserved
loop-request-preserved g c =
    let a = c.loop-request.operator.station in
    let b = c.cancel_if_undecided.new.operator.station in
    let item = c.request-item in
    record {
      number = c.cancel_if_undecided.ensures.number ∙ c.loop-request.invariant.number;
      cancels = λ s more. c.loop-request.invariant.cancels s (at_place (λ (r : RequestView). is_undecided (place_of r.token)) (λ (r : RequestView). r.number) AttemptsToCancel
          c.args.requests.now c.loop-request.request-index item.result a b s c.loop-request-test.true
          (subst (λ (r : RequestView). CancelsThese (undecided (r ∷ [])) a b) item.is c.cancel_if_undecided.ensures.cancels) more);
    }
