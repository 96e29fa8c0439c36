-- One turn after the other, up to a request.
use Rattle.std.proofs.Common.{◌≡◌, List, ℕ, ◌++◌, Option, None, Some, Ok, Err, ◌∙◌, subst, rules}
use Rattle.apf_trace_reader.specs.Reading.{Follows}
use Rattle.apf_trace_reader.specs.Turns.{GoesMore}
use Rattle.apf_trace_reader.proofs.Turning.{turned, turned_on}
use Rattle.apf_trace_reader.proofs.reader.TraceReader.turns.Goals as goal

pub returns-then-eq-clause-answers : goal.returns-then-eq-clause-answers
returns-then-eq-clause-answers g c = λ bytes told h.
    let m = c.turns.invariant.goes bytes told h in
    (m.0, m.1, c.pop.ensures.goes (bytes ++ m.0) told (g.R.Read.remaining c.turns.input) m.2)

pub returns-in_err-first-clause-answers : goal.returns-in_err-first-clause-answers
returns-in_err-first-clause-answers g c =
    let failed : c.from_residual.result ≡ Err c.in_err-first.field-0.0 = search (c.from_residual.ensures, rules) in
    rw failed (λ bytes told h.
    turned (g.R.Read.remaining c.args.input.now) (g.R.Read.remaining c.turns.input) (g.R.Read.remaining c.turn.new.input) bytes told c.turns.self c.turn.new.self (Err c.in_err-first.field-0.0)
    (c.turns.invariant.goes bytes told h) c.in_err-first.ensures.goes)

pub returns-in-Some-clause-answers : goal.returns-in-Some-clause-answers
returns-in-Some-clause-answers g c =
    let goes = subst (λ o. GoesMore (g.R.Read.remaining c.turns.input) (g.R.Read.remaining c.turn.new.input) c.turns.self (Ok o) c.turn.new.self) c.in-Some.is c.in_ok-first.ensures.goes in
    λ bytes told h.
    turned (g.R.Read.remaining c.args.input.now) (g.R.Read.remaining c.turns.input) (g.R.Read.remaining c.turn.new.input) bytes told c.turns.self c.turn.new.self (Ok (Some c.in-Some.first))
    (c.turns.invariant.goes bytes told h) goes

pub turns-preserved : goal.turns-preserved
turns-preserved g c =
    let goes = subst (λ o. GoesMore (g.R.Read.remaining c.turns.input) (g.R.Read.remaining c.turn.new.input) c.turns.self (Ok o) c.turn.new.self) c.in-None.is c.in_ok-first.ensures.goes in
    let same = subst (λ o. Follows c.turns.self.window.last (Ok o) c.turn.new.self.window.last) c.in-None.is c.in_ok-first.ensures.next in
    record {
      goes = λ bytes told h.
          turned_on (g.R.Read.remaining c.args.input.now) (g.R.Read.remaining c.turns.input) (g.R.Read.remaining c.turn.new.input) bytes told c.turns.self c.turn.new.self
          (c.turns.invariant.goes bytes told h) goes;
      last = same ∙ c.turns.invariant.last;
      size = c.in_ok-first.ensures.size ∙ c.turns.invariant.size;
    }
