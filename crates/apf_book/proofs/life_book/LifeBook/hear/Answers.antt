-- A hearing changes no history.
use Rattle.std.proofs.Common.{rules, sym, ap, ◌∙◌, subst}
use Rattle.apf_gate.specs.Records.{service}
use Rattle.apf_gate.specs.Requests.{has_entered}
use Rattle.apf_book.specs.LifeBook.{LifeBookView, IsLifeKept}
use Rattle.apf_book.proofs.Saying.{hears_quiet}
use Rattle.apf_book.proofs.LifeKeeping.{life_quiet}
use Rattle.apf_book.proofs.life_book.LifeBook.hear.Goals as goal

pub invariant_of-self : goal.invariant_of-self
invariant_of-self g c = record {
  view = c.self.invariant.view;
  kept = life_quiet c.self.invariant.view _ c.hear.new.desk c.self.invariant.kept c.hear.ensures.after.served c.hear.ensures.same.more
      (hears_quiet c.args.pass.now.pass c.hear.new.pass.pass c.self.inside.desk.desk c.hear.new.desk.desk c.hear.result c.hear.ensures.answer);
}

pub returns-clause-answer : goal.returns-clause-answer
returns-clause-answer g c = record {
  history = λ v is. life_quiet v _ c.hear.new.desk (subst (λ (b : LifeBookView). IsLifeKept v b) (sym c.self.view_is) is) c.hear.ensures.after.served c.hear.ensures.same.more
      (hears_quiet c.args.pass.now.pass c.hear.new.pass.pass c.self.inside.desk.desk c.hear.new.desk.desk c.hear.result c.hear.ensures.answer);
  answer = search rules;
  state = search rules;
  told = search rules;
  told_pass = search rules;
  left = search rules;
  entered = c.hear.ensures.after.entered ∙ (c.hear.ensures.same.tied.entered ∙ ap (λ (b : LifeBookView). has_entered (service b.desk.desk c.args.pass.now.pass.number)) c.self.view_is);
  not_handed = search rules;
}
