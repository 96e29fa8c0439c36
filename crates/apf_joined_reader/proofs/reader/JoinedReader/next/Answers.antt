-- The next request was read, with its line if one is found.
use Rattle.std.proofs.Common.{◌≡◌, Option, Some, None, Result, Ok, Err, refl, sym, subst, rules}
use Rattle.apf_audit.specs.AuditEvent.{event}
use Rattle.apf_audit.specs.declared.event.Taken.{Taken}
use Rattle.apf_audit_reader.specs.Reading as log
use Rattle.apf_audit_reader.specs.declared.fault.ReadFault.{ReadFault}
use Rattle.apf_joined_reader.specs.Counts.{counts_said}
use Rattle.apf_joined_reader.specs.Looking.{TakesMore}
use Rattle.apf_joined_reader.specs.Reading.{AnswersMore, JoinedView, inputs}
use Rattle.apf_joined_reader.specs.declared.fault.JoinFault.{JoinFault}
use Rattle.apf_joined_reader.specs.declared.fault.JoinFault.TheVariants.{Read}
use Rattle.apf_joined_reader.proofs.Requests.{all_read, join_failed, joined_too, read_failed}
use Rattle.apf_joined_reader.proofs.reader.JoinedReader.next.Goals as goal

pub returns-in-Ok-None-clause-answers : goal.returns-in-Ok-None-clause-answers
returns-in-Ok-None-clause-answers g c =
    let choice = c.args.choice.now in
    let log_was = g.R.Read.remaining c.args.input.now in
    let log_left = g.R.Read.remaining c.next.new.input in
    let lines_was = g.S.Read.remaining c.args.lines.now in
    let old : JoinedView = record { reader = c.self.inside.reader; halves = c.self.inside.halves; counts = counts_said c.self.inside.counts } in
    let new : JoinedView = record { reader = c.next.new.self; halves = c.self.inside.halves; counts = counts_said c.self.inside.counts } in
    let same : c.args.self.now ≡ old = search rules in
    let is : c.next.result ≡ Ok None = search rules in
    let answers : log.AnswersEach choice log_was log_left old.reader (Ok None) new.reader =
    subst (λ (r : Result (Option Taken) ReadFault). log.AnswersEach choice log_was log_left old.reader r new.reader) is c.next.ensures.answers.of_each in
    subst (λ (v : JoinedView). AnswersMore choice (inputs log_was lines_was) (inputs log_left lines_was) v (Ok None) new) (sym same)
    (all_read choice log_was log_left old lines_was new refl refl answers)

pub returns-in-Err-clause-answers : goal.returns-in-Err-clause-answers
returns-in-Err-clause-answers g c =
    let choice = c.args.choice.now in
    let log_was = g.R.Read.remaining c.args.input.now in
    let log_left = g.R.Read.remaining c.next.new.input in
    let lines_was = g.S.Read.remaining c.args.lines.now in
    let old : JoinedView = record { reader = c.self.inside.reader; halves = c.self.inside.halves; counts = counts_said c.self.inside.counts } in
    let new : JoinedView = record { reader = c.next.new.self; halves = c.self.inside.halves; counts = counts_said c.self.inside.counts } in
    let same : c.args.self.now ≡ old = search rules in
    let answers : log.AnswersEach choice log_was log_left old.reader (Err c.in-Err.fault) new.reader =
    subst (λ (r : Result (Option Taken) ReadFault). log.AnswersEach choice log_was log_left old.reader r new.reader) c.in-Err.is c.next.ensures.answers.of_each in
    subst (λ (v : JoinedView). AnswersMore choice (inputs log_was lines_was) (inputs log_left lines_was) v (Err (Read c.in-Err.fault)) new) (sym same)
    (read_failed choice log_was log_left old lines_was c.in-Err.fault new answers)

pub returns-in-Ok-clause-answers : goal.returns-in-Ok-clause-answers
returns-in-Ok-clause-answers g c =
    let choice = c.args.choice.now in
    let log_was = g.R.Read.remaining c.args.input.now in
    let log_left = g.R.Read.remaining c.next.new.input in
    let lines_was = g.S.Read.remaining c.args.lines.now in
    let lines_left = g.S.Read.remaining c.join.new.lines in
    let old : JoinedView = record { reader = c.self.inside.reader; halves = c.self.inside.halves; counts = counts_said c.self.inside.counts } in
    let mid : JoinedView = record { reader = c.next.new.self; halves = c.self.inside.halves; counts = counts_said c.self.inside.counts } in
    let new = c.join.new.self in
    let same : c.args.self.now ≡ old = search rules in
    let is : c.next.result ≡ Ok (Some c.in-Ok-Some.taken) = search rules in
    let answers : log.AnswersEach choice log_was log_left old.reader (Ok (Some c.in-Ok-Some.taken)) mid.reader =
    subst (λ (r : Result (Option Taken) ReadFault). log.AnswersEach choice log_was log_left old.reader r mid.reader) is c.next.ensures.answers.of_each in
    let takes : TakesMore choice.by (event c.in-Ok-Some.taken) lines_was lines_left mid (Ok c.in-Ok.joined) new =
    subst (λ (r : Result Taken JoinFault). TakesMore choice.by (event c.in-Ok-Some.taken) lines_was lines_left mid r new) c.in-Ok.is c.join.ensures.takes in
    subst (λ (v : JoinedView). AnswersMore choice (inputs log_was lines_was) (inputs log_left lines_left) v (Ok (Some c.in-Ok.joined)) new) (sym same)
    (joined_too choice log_was log_left old lines_was lines_left mid new c.in-Ok-Some.taken refl refl c.join.ensures.reader answers c.in-Ok.joined takes)

pub returns-in-Err-join-clause-answers : goal.returns-in-Err-join-clause-answers
returns-in-Err-join-clause-answers g c =
    let choice = c.args.choice.now in
    let log_was = g.R.Read.remaining c.args.input.now in
    let log_left = g.R.Read.remaining c.next.new.input in
    let lines_was = g.S.Read.remaining c.args.lines.now in
    let lines_left = g.S.Read.remaining c.join.new.lines in
    let old : JoinedView = record { reader = c.self.inside.reader; halves = c.self.inside.halves; counts = counts_said c.self.inside.counts } in
    let mid : JoinedView = record { reader = c.next.new.self; halves = c.self.inside.halves; counts = counts_said c.self.inside.counts } in
    let new = c.join.new.self in
    let same : c.args.self.now ≡ old = search rules in
    let is : c.next.result ≡ Ok (Some c.in-Ok-Some.taken) = search rules in
    let answers : log.AnswersEach choice log_was log_left old.reader (Ok (Some c.in-Ok-Some.taken)) mid.reader =
    subst (λ (r : Result (Option Taken) ReadFault). log.AnswersEach choice log_was log_left old.reader r mid.reader) is c.next.ensures.answers.of_each in
    let takes : TakesMore choice.by (event c.in-Ok-Some.taken) lines_was lines_left mid (Err c.in-Err-join.fault) new =
    subst (λ (r : Result Taken JoinFault). TakesMore choice.by (event c.in-Ok-Some.taken) lines_was lines_left mid r new) c.in-Err-join.is c.join.ensures.takes in
    subst (λ (v : JoinedView). AnswersMore choice (inputs log_was lines_was) (inputs log_left lines_left) v (Err c.in-Err-join.fault) new) (sym same)
    (join_failed choice log_was log_left old lines_was lines_left mid new c.in-Ok-Some.taken refl refl c.join.ensures.reader answers c.in-Err-join.fault takes)
