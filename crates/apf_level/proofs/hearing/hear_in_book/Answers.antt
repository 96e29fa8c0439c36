use Rattle.std.proofs.Common.{◌≡◌, ◌≢◌, ℕ, ◌<◌, length, None, sym, ap, ◌∙◌, subst}
use Rattle.std.specs.Prelude.{Contains}
use Rattle.apf_model.specs.History.{waiting}
use Rattle.apf_gate.specs.Records.{told_of, told_own}
use Rattle.apf_gate.specs.Tokens.{PassToken}
use Rattle.apf_level.proofs.Following.{heard_on}
use Rattle.apf_level.proofs.hearing.hear_in_book.Goals as goal

pub returns-clause-heard : goal.returns-clause-heard
returns-clause-heard g c =
    let t : PassToken = c.hear.new.pass in
    let old : PassToken = c.args.pass.now in
    let desk = c.hear.new.self.desk.desk in
    let later = c.strike-struck.new.self.desk.desk in
    let r : ℕ = old.pass.number in
    let n : t.pass.number ≡ r = c.hear.ensures.same_request.number in
    let asked : c.number.result ≡ t.pass.number = c.number.ensures.number in
    let some = c.requires.done.told in
    let told : told_of desk.knows.told r ≡ told_own old.pass = c.hear.ensures.after.told some in
    let known : told_of desk.knows.told t.pass.number ≢ None = (λ none. some (sym told ∙ (ap (told_of desk.knows.told) (sym n) ∙ none))) in
    record {
      told = c.strike-struck.ensures.same.more.told t.pass.number known ∙ (ap (told_of desk.knows.told) n ∙ (told ∙ sym (c.hear.ensures.after.told_pass some)));
      gone = λ waits.
          let member = ((c.every_book_is_kept.ensures later c.strike-struck.new.self.ledger c.strike-struck.ensures.same.kept).waiting_is t.pass.number).0 waits in
          c.strike-struck.ensures.after.told (subst (λ (i : ℕ). told_of desk.knows.told i ≢ None) (sym asked) known) member.0 (subst (λ (i : ℕ). Contains (waiting c.strike-struck.new.self.ledger.history member.0) i) (sym asked) member.1);
      inside = subst (λ (i : ℕ). i < length t.pass.knows.shape.widths) asked c.number.ensures.inside;
    }

pub returns-clause-goes_on : goal.returns-clause-goes_on
returns-clause-goes_on g c = record {
  number = c.hear.ensures.same_request.number;
  trace = heard_on (record { pass = c.args.pass.now.pass; desk = c.args.book.now.desk.desk }) (record { pass = c.hear.new.pass.pass; desk = c.hear.new.self.desk.desk }) c.hear.ensures.answer.answer.0 c.hear.ensures.answer.answer.1;
}
