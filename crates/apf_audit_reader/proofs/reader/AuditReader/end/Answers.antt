-- What stands behind the last LF is a line, or there is nothing.
use Rattle.std.proofs.Common.{◌≡◌, List, [], ◌∷◌, ◌++◌, map, ℕ, true, false, sym, ap, ◌∙◌, subst, rules}
use Rattle.std.specs.Option.{option_to_list}
use Rattle.apf_lines.specs.Lines.{TellsRest}
use Rattle.apf_audit.specs.AuditEvent.{event}
use Rattle.apf_audit_reader.specs.declared.stage.Stage.TheVariants.{Reading}
use Rattle.apf_audit_reader.specs.Reading.{HasTaken, IsRefused}
use Rattle.apf_audit_reader.specs.Views.{ReaderView}
use Rattle.apf_audit_reader.proofs.Steps.{long_refused}
use Rattle.apf_audit_reader.proofs.Turning.{input_ended, none_told, rest_long, rest_refused, rest_taken}
use Rattle.apf_audit_reader.proofs.reader.AuditReader.end.Goals as goal

pub returns-then-not-has_rest-clause-goes : goal.returns-then-not-has_rest-clause-goes
returns-then-not-has_rest-clause-goes c =
    let v : ReaderView = record { lines = c.self.inside.lines; window = c.self.inside.window; estimates = c.self.inside.estimates; number = c.self.inside.number; unnamed = c.self.inside.unnamed; is_cut = c.self.inside.is_cut; stage = c.self.inside.stage } in
    let reading : v.stage ≡ Reading = ap (λ (u : ReaderView). u.stage) c.self.view_is ∙ c.requires.stage in
    let none : TellsRest v.lines false = let nothing : c.has_rest.result ≡ false = search (c.if-not-has_rest.true, rules) in subst (TellsRest v.lines) nothing c.has_rest.ensures in
    rw (← c.self.view_is) (λ bytes told left end h. none_told c.args.choice.now bytes told left _ (input_ended c.args.choice.now bytes told v h reading left end none))

pub returns-then-is_skipped-clause-goes : goal.returns-then-is_skipped-clause-goes
returns-then-is_skipped-clause-goes c =
    let v : ReaderView = record { lines = c.self.inside.lines; window = c.self.inside.window; estimates = c.self.inside.estimates; number = c.self.inside.number; unnamed = c.self.inside.unnamed; is_cut = c.self.inside.is_cut; stage = c.self.inside.stage } in
    let reading : v.stage ≡ Reading = ap (λ (u : ReaderView). u.stage) c.self.view_is ∙ c.requires.stage in
    let some : TellsRest v.lines true = let there : c.has_rest.result ≡ true = search (c.if-not-has_rest.false, rules) in subst (TellsRest v.lines) there c.has_rest.ensures in
    let fault = c.too_long-fault.result in
    let skipped : v.lines.is_skipped ≡ true = sym c.if-is_skipped.ensures in
    rw (← c.self.view_is, c.refuse.ensures.told) (λ bytes told left end h.
    subst (IsRefused c.args.choice.now bytes left fault) (sym c.refuse.ensures.same)
    (rest_long c.args.choice.now bytes told v h reading left fault end some skipped c.self.invariant.most
    (λ line over. long_refused c.args.choice.now h.lines told v h.has_taken line fault (c.too_long-fault.ensures.fault c.args.choice.now line over))))

pub returns-in-Ok-clause-goes : goal.returns-in-Ok-clause-goes
returns-in-Ok-clause-goes c =
    let v : ReaderView = record { lines = c.self.inside.lines; window = c.self.inside.window; estimates = c.self.inside.estimates; number = c.self.inside.number; unnamed = c.self.inside.unnamed; is_cut = c.self.inside.is_cut; stage = c.self.inside.stage } in
    let reading : v.stage ≡ Reading = ap (λ (u : ReaderView). u.stage) c.self.view_is ∙ c.requires.stage in
    let some : TellsRest v.lines true = let there : c.has_rest.result ≡ true = search (c.if-not-has_rest.false, rules) in subst (TellsRest v.lines) there c.has_rest.ensures in
    let w : ReaderView = record { lines = c.self-2.inside.lines; window = c.self-2.inside.window; estimates = c.self-2.inside.estimates; number = c.self-2.inside.number; unnamed = c.self-2.inside.unnamed; is_cut = c.self-2.inside.is_cut; stage = c.self-2.inside.stage } in
    let whole : v.lines.is_skipped ≡ false = sym c.if-is_skipped.ensures in
    rw (← c.self.view_is) (λ bytes told left end h.
    rest_taken c.args.choice.now bytes told v h reading left c.in-Ok.first w end some whole
    (subst (HasTaken c.args.choice.now (h.lines ++ record { bytes = v.lines.kept; is_ended = false } ∷ []) (told ++ map event (option_to_list c.in-Ok.first))) (sym c.self-2.view_is) (c.in-Ok.ensures.takes h.lines told h.has_taken)))

pub returns-in-Err-clause-goes : goal.returns-in-Err-clause-goes
returns-in-Err-clause-goes c =
    let v : ReaderView = record { lines = c.self.inside.lines; window = c.self.inside.window; estimates = c.self.inside.estimates; number = c.self.inside.number; unnamed = c.self.inside.unnamed; is_cut = c.self.inside.is_cut; stage = c.self.inside.stage } in
    let reading : v.stage ≡ Reading = ap (λ (u : ReaderView). u.stage) c.self.view_is ∙ c.requires.stage in
    let some : TellsRest v.lines true = let there : c.has_rest.result ≡ true = search (c.if-not-has_rest.false, rules) in subst (TellsRest v.lines) there c.has_rest.ensures in
    let whole : v.lines.is_skipped ≡ false = sym c.if-is_skipped.ensures in
    rw (← c.self.view_is) (λ bytes told left end h.
    rest_refused c.args.choice.now bytes told v h reading left c.in-Err.fault c.take.new.self end some whole (c.in-Err.ensures.takes h.lines told h.has_taken))
