-- More is read, or the input is at its end.
use Rattle.std.proofs.Common.{◌≡◌, List, ℕ, [], ◌++◌, ap, ◌∙◌}
use Rattle.std.proofs.KnownBytes.{Consumes-kept, Consumes-nil}
use Rattle.std.proofs.lemmas.List.{nil_from_length}
use Rattle.apf_audit_reader.specs.declared.stage.Stage.TheVariants.{Reading}
use Rattle.apf_audit_reader.specs.Views.{ReaderView}
use Rattle.apf_audit_reader.proofs.Turning.{at_lines, end_read, more_read, none_told, still_read}
use Rattle.apf_audit_reader.proofs.reader.AuditReader.fill.Goals as goal

pub returns-then-count-eq0-clause-goes : goal.returns-then-count-eq0-clause-goes
returns-then-count-eq0-clause-goes g c =
    let v : ReaderView = record { lines = c.self.inside.lines; window = c.self.inside.window; estimates = c.self.inside.estimates; number = c.self.inside.number; unnamed = c.self.inside.unnamed; is_cut = c.self.inside.is_cut; stage = c.self.inside.stage } in
    let reading : v.stage ≡ Reading = ap (λ (u : ReaderView). u.stage) c.self.view_is ∙ c.requires.stage in
    let gains = c.in-Ok.ensures.reads in
    let count : c.in-Ok.count ≡ 0 = c.if-count-eq0.true in
    let none : gains.bytes ≡ [] = nil_from_length gains.bytes (gains.count_is ∙ count) in
    rw (← c.self.view_is) (λ bytes told h.
    (gains.bytes, gains.given, c.end.ensures.goes (bytes ++ gains.bytes) told (g.R.Read.remaining c.fill.new.input) (gains.end count) (end_read c.args.choice.now bytes told v h reading c.fill.new.self gains.bytes none gains.of_each)))

pub returns-else-count-eq0-clause-goes : goal.returns-else-count-eq0-clause-goes
returns-else-count-eq0-clause-goes g c =
    let v : ReaderView = record { lines = c.self.inside.lines; window = c.self.inside.window; estimates = c.self.inside.estimates; number = c.self.inside.number; unnamed = c.self.inside.unnamed; is_cut = c.self.inside.is_cut; stage = c.self.inside.stage } in
    let reading : v.stage ≡ Reading = ap (λ (u : ReaderView). u.stage) c.self.view_is ∙ c.requires.stage in
    let gains = c.in-Ok.ensures.reads in
    rw (← c.self.view_is) (λ bytes told h. (
      gains.bytes,
      gains.given,
      none_told c.args.choice.now (bytes ++ gains.bytes) told (g.R.Read.remaining c.fill.new.input) (at_lines v c.fill.new.self v.stage)
          (more_read c.args.choice.now bytes told v h reading c.fill.new.self gains.bytes (g.R.Read.remaining c.fill.new.input) gains.of_each),
    ))

pub returns-in-Err-clause-goes : goal.returns-in-Err-clause-goes
returns-in-Err-clause-goes g c =
    let v : ReaderView = record { lines = c.self.inside.lines; window = c.self.inside.window; estimates = c.self.inside.estimates; number = c.self.inside.number; unnamed = c.self.inside.unnamed; is_cut = c.self.inside.is_cut; stage = c.self.inside.stage } in
    let reading : v.stage ≡ Reading = ap (λ (u : ReaderView). u.stage) c.self.view_is ∙ c.requires.stage in
    let stays = c.in-Err.ensures.reads in
    let left = g.R.Read.remaining c.fill.new.input in
    rw (← c.self.view_is) (λ bytes told h. (
      [],
      Consumes-kept (g.R.Read.remaining c.args.input.now) (g.R.Read.remaining c.args.input.now) left [] (Consumes-nil (g.R.Read.remaining c.args.input.now)) stays.kept,
      none_told c.args.choice.now (bytes ++ []) told left (at_lines v c.fill.new.self v.stage) (still_read c.args.choice.now bytes told v h reading c.fill.new.self left stays.of_each),
    ))

pub returns-in-Err-2-clause-goes : goal.returns-in-Err-2-clause-goes
returns-in-Err-2-clause-goes g c =
    let v : ReaderView = record { lines = c.self.inside.lines; window = c.self.inside.window; estimates = c.self.inside.estimates; number = c.self.inside.number; unnamed = c.self.inside.unnamed; is_cut = c.self.inside.is_cut; stage = c.self.inside.stage } in
    let reading : v.stage ≡ Reading = ap (λ (u : ReaderView). u.stage) c.self.view_is ∙ c.requires.stage in
    let stays = c.in-Err.ensures.reads in
    let left = g.R.Read.remaining c.fill.new.input in
    rw (← c.self.view_is) (λ bytes told h. (
      [],
      Consumes-kept (g.R.Read.remaining c.args.input.now) (g.R.Read.remaining c.args.input.now) left [] (Consumes-nil (g.R.Read.remaining c.args.input.now)) stays.kept,
      still_read c.args.choice.now bytes told v h reading c.fill.new.self left stays.of_each,
    ))
