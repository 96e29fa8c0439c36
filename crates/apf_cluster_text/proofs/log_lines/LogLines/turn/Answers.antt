-- A line, one that is too long, or no line yet.
use Rattle.std.proofs.Common.{◌≡◌, List, ℕ, [], ap, ◌∙◌, sym, subst, append-nil, false}
use Rattle.std.proofs.KnownBytes.{Consumes-nil}
use Rattle.apf_cluster_text.specs.LogLines.{Finds}
use Rattle.apf_cluster_text.specs.LogViews.{LogView}
use Rattle.apf_cluster_text.specs.declared.log_lines.Found.TheVariants.{Held, TooLong}
use Rattle.apf_cluster_text.proofs.Finding.{line_found, long_found, nothing_cut, one_more}
use Rattle.apf_cluster_text.proofs.log_lines.LogLines.turn.Goals as goal

pub returns-in-Line : goal.returns-in-Line
returns-in-Line g c =
    let v : LogView = record { lines = c.self.inside.lines; number = c.self.inside.number; is_ended = c.self.inside.is_ended; is_over = c.self.inside.is_over } in
    let reading : v.is_over ≡ false = ap (λ (u : LogView). u.is_over) c.self.view_is ∙ c.requires in
    let left = g.R.Read.remaining c.args.input.now in
    rw (← c.self.view_is) (λ bytes before h. (
      [],
      Consumes-nil left,
      subst (λ (b : List ℕ). Finds b before left Held (one_more v c.cut.new.self)) (sym (append-nil bytes)) (line_found bytes before left v h reading c.cut.new.self c.in-Line.ensures c.self.invariant.most),
    ))

pub returns-in-TooLong : goal.returns-in-TooLong
returns-in-TooLong g c =
    let v : LogView = record { lines = c.self.inside.lines; number = c.self.inside.number; is_ended = c.self.inside.is_ended; is_over = c.self.inside.is_over } in
    let reading : v.is_over ≡ false = ap (λ (u : LogView). u.is_over) c.self.view_is ∙ c.requires in
    let left = g.R.Read.remaining c.args.input.now in
    rw (← c.self.view_is) (λ bytes before h. (
      [],
      Consumes-nil left,
      subst (λ (b : List ℕ). Finds b before left TooLong (one_more v c.cut.new.self)) (sym (append-nil bytes)) (long_found bytes before left v h reading c.cut.new.self c.in-TooLong.ensures c.self.invariant.most),
    ))

pub returns-in-Nothing : goal.returns-in-Nothing
returns-in-Nothing g c =
    let v : LogView = record { lines = c.self.inside.lines; number = c.self.inside.number; is_ended = c.self.inside.is_ended; is_over = c.self.inside.is_over } in
    let reading : v.is_over ≡ false = ap (λ (u : LogView). u.is_over) c.self.view_is ∙ c.requires in
    rw (← c.self.view_is) (λ bytes before h. c.fill.ensures bytes before (nothing_cut bytes before (g.R.Read.remaining c.args.input.now) v h reading c.cut.new.self c.in-Nothing.ensures))
