-- What stands behind the last LF is a line, or there is nothing.
use Rattle.std.proofs.Common.{◌≡◌, length, true, false, sym, ap, subst, rules, arith}
use Rattle.apf_lines.specs.Lines.{TellsRest}
use Rattle.apf_cluster_text.specs.LogViews.{LogView}
use Rattle.apf_cluster_text.proofs.Finding.{input_ended, kept_found, kept_long_found, skipped_found}
use Rattle.apf_cluster_text.proofs.log_lines.LogLines.end.Goals as goal

pub returns-then-not-has_rest : goal.returns-then-not-has_rest
returns-then-not-has_rest c =
    let v : LogView = record { lines = c.self.inside.lines; number = c.self.inside.number; is_ended = c.self.inside.is_ended; is_over = c.self.inside.is_over } in
    let none : TellsRest v.lines false = let nothing : c.has_rest.result ≡ false = search (c.if-not-has_rest.true, rules) in subst (TellsRest v.lines) nothing c.has_rest.ensures in
    rw (← c.self.view_is) (λ bytes before left end h. input_ended bytes before v h left end none)

pub returns-then-is_skipped : goal.returns-then-is_skipped
returns-then-is_skipped c =
    let v : LogView = record { lines = c.self.inside.lines; number = c.self.inside.number; is_ended = c.self.inside.is_ended; is_over = c.self.inside.is_over } in
    let some : TellsRest v.lines true = let there : c.has_rest.result ≡ true = search (c.if-not-has_rest.false, rules) in subst (TellsRest v.lines) there c.has_rest.ensures in
    let skipped : v.lines.is_skipped ≡ true = sym c.if-is_skipped.ensures in
    rw (← c.self.view_is) (λ bytes before left end h. skipped_found bytes before v h left end some skipped c.self.invariant.most)

pub returns-then-kept-gt-MAX_LINE : goal.returns-then-kept-gt-MAX_LINE
returns-then-kept-gt-MAX_LINE c =
    let v : LogView = record { lines = c.self.inside.lines; number = c.self.inside.number; is_ended = c.self.inside.is_ended; is_over = c.self.inside.is_over } in
    let some : TellsRest v.lines true = let there : c.has_rest.result ≡ true = search (c.if-not-has_rest.false, rules) in subst (TellsRest v.lines) there c.has_rest.ensures in
    let whole : v.lines.is_skipped ≡ false = sym c.if-is_skipped.ensures in
    let kept = ap length c.kept.ensures in
    rw (← c.self.view_is) (λ bytes before left end h. kept_long_found bytes before v h left end some whole (omega (arith, kept)))

pub returns : goal.returns
returns c =
    let v : LogView = record { lines = c.self.inside.lines; number = c.self.inside.number; is_ended = c.self.inside.is_ended; is_over = c.self.inside.is_over } in
    let some : TellsRest v.lines true = let there : c.has_rest.result ≡ true = search (c.if-not-has_rest.false, rules) in subst (TellsRest v.lines) there c.has_rest.ensures in
    let whole : v.lines.is_skipped ≡ false = sym c.if-is_skipped.ensures in
    let kept = ap length c.kept.ensures in
    rw (← c.self.view_is) (λ bytes before left end h. kept_found bytes before v h left end some whole (omega (arith, kept)))
