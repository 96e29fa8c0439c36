-- A line, one that is too long, or no line yet.
use Rattle.std.proofs.Common.{◌≡◌, Err, OnOk, sym, subst, ap, ◌∙◌}
use Rattle.apf_audit_reader.specs.declared.fault.ReadFault.TheVariants.{Log}
use Rattle.apf_audit_reader.specs.declared.stage.Stage.TheVariants.{Reading}
use Rattle.apf_audit_reader.specs.Reading.{IsRefused}
use Rattle.apf_audit_reader.specs.Views.{ReaderView}
use Rattle.apf_audit_reader.proofs.Steps.{long_refused}
use Rattle.apf_audit_reader.proofs.Turning.{line_went, long_went, nothing_cut, nothing_more}
use Rattle.apf_audit_reader.proofs.reader.AuditReader.turn.Goals as goal

pub returns-in-Line-clause-goes : goal.returns-in-Line-clause-goes
returns-in-Line-clause-goes g c =
    let v : ReaderView = record { lines = c.self.inside.lines; window = c.self.inside.window; estimates = c.self.inside.estimates; number = c.self.inside.number; unnamed = c.self.inside.unnamed; is_cut = c.self.inside.is_cut; stage = c.self.inside.stage } in
    let reading : v.stage ≡ Reading = ap (λ (u : ReaderView). u.stage) c.self.view_is ∙ c.requires in
    let left = g.R.Read.remaining c.args.input.now in
    rw (← c.self.view_is) (λ bytes told h.
    nothing_more c.args.choice.now bytes told left c.take.result c.take.new.self
    (line_went c.args.choice.now bytes told left v h reading c.cut.new.self c.take.result c.take.new.self c.in-Line.ensures c.take.ensures.takes c.take.ensures.lines
    (λ first is. subst (λ r. OnOk r (c.take.new.self.stage ≡ Reading)) is c.take.ensures.stage)))

pub returns-in-TooLong-clause-goes : goal.returns-in-TooLong-clause-goes
returns-in-TooLong-clause-goes g c =
    let v : ReaderView = record { lines = c.self.inside.lines; window = c.self.inside.window; estimates = c.self.inside.estimates; number = c.self.inside.number; unnamed = c.self.inside.unnamed; is_cut = c.self.inside.is_cut; stage = c.self.inside.stage } in
    let reading : v.stage ≡ Reading = ap (λ (u : ReaderView). u.stage) c.self.view_is ∙ c.requires in
    let fault = c.too_long-fault.result in
    let left = g.R.Read.remaining c.args.input.now in
    rw (← c.self.view_is, c.refuse.ensures.told) (λ bytes told h.
    nothing_more c.args.choice.now bytes told left (Err (Log fault)) c.refuse.new.self
    (subst (IsRefused c.args.choice.now bytes left fault) (sym c.refuse.ensures.same)
    (long_went c.args.choice.now bytes told left v h reading c.cut.new.self fault c.in-TooLong.ensures c.self.invariant.most
    (λ line over. long_refused c.args.choice.now h.lines told v h.has_taken line fault (c.too_long-fault.ensures.fault c.args.choice.now line over)))))

pub returns-in-Nothing-clause-goes : goal.returns-in-Nothing-clause-goes
returns-in-Nothing-clause-goes g c =
    let v : ReaderView = record { lines = c.self.inside.lines; window = c.self.inside.window; estimates = c.self.inside.estimates; number = c.self.inside.number; unnamed = c.self.inside.unnamed; is_cut = c.self.inside.is_cut; stage = c.self.inside.stage } in
    let reading : v.stage ≡ Reading = ap (λ (u : ReaderView). u.stage) c.self.view_is ∙ c.requires in
    rw (← c.self.view_is) (λ bytes told h. c.fill.ensures.goes bytes told (nothing_cut c.args.choice.now bytes told (g.R.Read.remaining c.args.input.now) v h reading c.cut.new.self c.in-Nothing.ensures))
