use Rattle.std.proofs.Common.{rules, ◌≡◌, refl, sym, ap, ◌∙◌, subst}
use Rattle.apf_line.specs.declared.attempts.Tried.{Tried}
use Rattle.apf_line.specs.declared.attempts.Tried.TheVariants as tries
use Rattle.apf_line.specs.Attempts.{Attempts}
use Rattle.apf_session.specs.declared.life.answer.Answer.TheVariants as answers
use Rattle.apf_session.specs.declared.life.answer.Place.{Place}
use Rattle.apf_session.specs.declared.life.answer.Place.TheVariants as places
use Rattle.apf_session.specs.declared.life.token.Token.{Token}
use Rattle.apf_session.specs.declared.life.token.Token.TheVariants as tokens
use Rattle.apf_session.specs.LifeRequests.{token_at, TriesAs}
use Rattle.apf_session.proofs.life.request.Request.try_arrive.Goals as goal

pub returns-in-Run-clause-steps : goal.returns-in-Run-clause-steps
returns-in-Run-clause-steps g c =
    let at : c.self.inside.place ≡ places.Free = search rules in
    let holds : tokens.Free c.self.inside.pass ≡ c.args.self.now = ap (λ (p : Place). token_at p c.self.inside.pass) (sym at) ∙ c.self.view_is in
    let renewed = c.if-not-renew_slot.ensures.renews refl in
    subst (λ (t : Token). TriesAs c.args.ask.width c.args.ask.hash t answers.Run (tokens.Running c.attempt-tried.new.pass)) holds (λ _. record {
      next = c.renew_slot.new.pass;
      found = renewed.0;
      renews = renewed.1;
      tried = tries.Run;
      left = c.attempt-tried.new.pass;
      steps = subst (λ (t : Tried). Attempts c.renew_slot.new.pass.pass t c.attempt-tried.new.pass) c.in-Run.is c.attempt-tried.ensures.steps;
      keeps = (refl, refl);
    })
