-- More is read, or the input is at its end.
use Rattle.std.proofs.Common.{◌≡◌, List, ℕ, [], ◌++◌, ap, ◌∙◌}
use Rattle.std.proofs.lemmas.List.{nil_from_length}
use Rattle.apf_trace_reader.specs.declared.stage.Stage.TheVariants.{Reading}
use Rattle.apf_trace_reader.specs.Views.{ReaderView}
use Rattle.apf_trace_reader.proofs.Steps.{end_read, more_read, none_told}
use Rattle.apf_trace_reader.proofs.reader.TraceReader.fill.Goals as goal

pub returns-then-count-eq0-clause-goes : goal.returns-then-count-eq0-clause-goes
returns-then-count-eq0-clause-goes g c =
    let v : ReaderView = record { lines = c.self.inside.lines; window = c.self.inside.window; number = c.self.inside.number; stage = c.self.inside.stage; has_cost = c.self.inside.has_cost } in
    let reading : v.stage ≡ Reading = ap (λ (u : ReaderView). u.stage) c.self.view_is ∙ c.requires.stage in
    let gains = c.in-Ok.ensures.reads in
    let count : c.in-Ok.count ≡ 0 = c.if-count-eq0.true in
    let none : gains.bytes ≡ [] = nil_from_length gains.bytes (gains.count_is ∙ count) in
    rw (← c.self.view_is) (λ bytes told h whole.
    let ended = end_read bytes told (g.R.Read.remaining c.args.input.now) (g.R.Read.remaining c.fill.new.input) v c.fill.new.self gains.bytes h whole reading none gains.of_each in
    (gains.bytes, gains.given, c.end.ensures.goes (bytes ++ gains.bytes) told (g.R.Read.remaining c.fill.new.input) (gains.end count) ended.read ended.whole))

pub returns-else-count-eq0-clause-goes : goal.returns-else-count-eq0-clause-goes
returns-else-count-eq0-clause-goes g c =
    let v : ReaderView = record { lines = c.self.inside.lines; window = c.self.inside.window; number = c.self.inside.number; stage = c.self.inside.stage; has_cost = c.self.inside.has_cost } in
    let reading : v.stage ≡ Reading = ap (λ (u : ReaderView). u.stage) c.self.view_is ∙ c.requires.stage in
    let gains = c.in-Ok.ensures.reads in
    rw (← c.self.view_is) (λ bytes told h whole. (
      gains.bytes,
      gains.given,
      none_told (bytes ++ gains.bytes) told (g.R.Read.remaining c.fill.new.input) (record { lines = c.fill.new.self; window = v.window; number = v.number; stage = v.stage; has_cost = v.has_cost })
          (more_read bytes told (g.R.Read.remaining c.args.input.now) (g.R.Read.remaining c.fill.new.input) v c.fill.new.self gains.bytes h reading gains.of_each),
    ))
