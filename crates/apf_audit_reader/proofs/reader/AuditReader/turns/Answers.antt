-- One turn after the other, up to a request.
use Rattle.std.proofs.Common.{◌≡◌, List, ℕ, ◌++◌, Option, None, Some, Ok, Err, ap, sym, ◌∙◌, subst, rules}
use Rattle.apf_audit_reader.specs.Reading.{AreCut}
use Rattle.apf_audit_reader.specs.Turns.{GoesMore}
use Rattle.apf_audit_reader.specs.Views.{ReaderView}
use Rattle.apf_audit_reader.proofs.Turning.{turned, turned_on}
use Rattle.apf_audit_reader.proofs.reader.AuditReader.turns.Goals as goal

pub returns-in-Ended-clause-answers : goal.returns-in-Ended-clause-answers
returns-in-Ended-clause-answers g c = λ bytes told h.
    let m = c.turns.invariant.goes bytes told h in
    (m.0, m.1, c.pop.ensures.goes c.args.choice.now (bytes ++ m.0) told (g.R.Read.remaining c.turns.input) m.2)

pub returns-in_err-first-clause-answers : goal.returns-in_err-first-clause-answers
returns-in_err-first-clause-answers g c =
    let failed : c.from_residual.result ≡ Err c.in_err-first.field-0.0 = search (c.from_residual.ensures, rules) in
    rw failed (λ bytes told h.
    turned c.args.choice.now (g.R.Read.remaining c.args.input.now) (g.R.Read.remaining c.turns.input) (g.R.Read.remaining c.turn.new.input) bytes told c.turns.self c.turn.new.self (Err c.in_err-first.field-0.0)
    (c.turns.invariant.goes bytes told h) c.in_err-first.ensures.goes)

pub returns-in-Some-clause-answers : goal.returns-in-Some-clause-answers
returns-in-Some-clause-answers g c =
    let goes = subst (λ o. GoesMore c.args.choice.now (g.R.Read.remaining c.turns.input) (g.R.Read.remaining c.turn.new.input) c.turns.self (Ok o) c.turn.new.self) c.in-Some.is c.in_ok-first.ensures.goes in
    λ bytes told h.
    turned c.args.choice.now (g.R.Read.remaining c.args.input.now) (g.R.Read.remaining c.turns.input) (g.R.Read.remaining c.turn.new.input) bytes told c.turns.self c.turn.new.self (Ok (Some c.in-Some.first))
    (c.turns.invariant.goes bytes told h) goes

pub turns-preserved : goal.turns-preserved
turns-preserved g c =
    let goes = subst (λ o. GoesMore c.args.choice.now (g.R.Read.remaining c.turns.input) (g.R.Read.remaining c.turn.new.input) c.turns.self (Ok o) c.turn.new.self) c.in-None.is c.in_ok-first.ensures.goes in
    record {
      goes = λ bytes told h.
          turned_on c.args.choice.now (g.R.Read.remaining c.args.input.now) (g.R.Read.remaining c.turns.input) (g.R.Read.remaining c.turn.new.input) bytes told c.turns.self c.turn.new.self
          (c.turns.invariant.goes bytes told h) goes;
      size = c.in_ok-first.ensures.size ∙ c.turns.invariant.size;
    }

pub returns-in-Failed-clause-answers : goal.returns-in-Failed-clause-answers
returns-in-Failed-clause-answers g c = λ bytes told h.
    let m = c.turns.invariant.goes bytes told h in
    absurd (subst (λ s. AreCut s (bytes ++ m.0) m.2.lines c.turns.self.lines) (ap (λ (u : ReaderView). u.stage) (sym c.self.view_is) ∙ c.in-Failed.is) m.2.cut)
