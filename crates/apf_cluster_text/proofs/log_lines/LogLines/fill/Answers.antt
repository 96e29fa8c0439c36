-- More is read, or the input is at its end.
use Rattle.std.proofs.Common.{◌≡◌, [], ◌++◌, ap, ◌∙◌, false}
use Rattle.std.proofs.KnownBytes.{Consumes-kept, Consumes-nil}
use Rattle.std.proofs.lemmas.List.{nil_from_length}
use Rattle.apf_cluster_text.specs.LogViews.{LogView}
use Rattle.apf_cluster_text.proofs.Finding.{end_read, more_read, still_read}
use Rattle.apf_cluster_text.proofs.log_lines.LogLines.fill.Goals as goal

pub returns-then-count-eq0 : goal.returns-then-count-eq0
returns-then-count-eq0 g c =
    let v : LogView = record { lines = c.self.inside.lines; number = c.self.inside.number; is_ended = c.self.inside.is_ended; is_over = c.self.inside.is_over } in
    let gains = c.in-Ok.ensures.reads in
    let count : c.in-Ok.count ≡ 0 = c.if-count-eq0.true in
    let none : gains.bytes ≡ [] = nil_from_length gains.bytes (gains.count_is ∙ count) in
    rw (← c.self.view_is) (λ bytes before h.
    (gains.bytes, gains.given, c.end.ensures (bytes ++ gains.bytes) before (g.R.Read.remaining c.fill.new.input) (gains.end count) (end_read bytes before v h c.fill.new.self gains.bytes none gains.of_each)))

pub returns-else-count-eq0 : goal.returns-else-count-eq0
returns-else-count-eq0 g c =
    let v : LogView = record { lines = c.self.inside.lines; number = c.self.inside.number; is_ended = c.self.inside.is_ended; is_over = c.self.inside.is_over } in
    let reading : v.is_over ≡ false = ap (λ (u : LogView). u.is_over) c.self.view_is ∙ c.requires.reading in
    let gains = c.in-Ok.ensures.reads in
    rw (← c.self.view_is) (λ bytes before h. (gains.bytes, gains.given, more_read bytes before v h reading c.fill.new.self gains.bytes (g.R.Read.remaining c.fill.new.input) gains.of_each))

pub returns-in-Err : goal.returns-in-Err
returns-in-Err g c =
    let v : LogView = record { lines = c.self.inside.lines; number = c.self.inside.number; is_ended = c.self.inside.is_ended; is_over = c.self.inside.is_over } in
    let reading : v.is_over ≡ false = ap (λ (u : LogView). u.is_over) c.self.view_is ∙ c.requires.reading in
    let stays = c.in-Err.ensures.reads in
    let left = g.R.Read.remaining c.fill.new.input in
    rw (← c.self.view_is) (λ bytes before h. (
      [],
      Consumes-kept (g.R.Read.remaining c.args.input.now) (g.R.Read.remaining c.args.input.now) left [] (Consumes-nil (g.R.Read.remaining c.args.input.now)) stays.kept,
      still_read bytes before v h reading c.fill.new.self left stays.of_each,
    ))

pub returns-in-Err-2 : goal.returns-in-Err-2
returns-in-Err-2 g c =
    let v : LogView = record { lines = c.self.inside.lines; number = c.self.inside.number; is_ended = c.self.inside.is_ended; is_over = c.self.inside.is_over } in
    let reading : v.is_over ≡ false = ap (λ (u : LogView). u.is_over) c.self.view_is ∙ c.requires.reading in
    let stays = c.in-Err.ensures.reads in
    let left = g.R.Read.remaining c.fill.new.input in
    rw (← c.self.view_is) (λ bytes before h. (
      [],
      Consumes-kept (g.R.Read.remaining c.args.input.now) (g.R.Read.remaining c.args.input.now) left [] (Consumes-nil (g.R.Read.remaining c.args.input.now)) stays.kept,
      still_read bytes before v h reading c.fill.new.self left stays.of_each,
    ))
