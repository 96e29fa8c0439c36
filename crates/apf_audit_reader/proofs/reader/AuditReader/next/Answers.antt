-- What is held is handed out at the end of the input.
use Rattle.std.proofs.Common.{◌≡◌, [], ◌++◌, Ok, append-nil, refl, sym, subst, rules}
use Rattle.std.proofs.KnownBytes.{Consumes-nil}
use Rattle.apf_audit_reader.specs.Reading.{Answers}
use Rattle.apf_audit_reader.proofs.reader.AuditReader.next.Goals as goal

pub returns-in-Ended-clause-answers : goal.returns-in-Ended-clause-answers
returns-in-Ended-clause-answers g c = record {
  of_each = λ bytes told h. (
    [],
    Consumes-nil (g.R.Read.remaining c.args.input.now),
    subst (λ b. Answers c.args.choice.now b told (g.R.Read.remaining c.args.input.now) (Ok c.pop.result) c.pop.new.self) (sym (append-nil bytes)) (c.pop.ensures.goes c.args.choice.now bytes told (g.R.Read.remaining c.args.input.now) h),
  );
  again = λ fault is. absurd (search rules);
  ends = λ _. refl;
}
