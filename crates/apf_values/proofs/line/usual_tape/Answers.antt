-- A tape of a usual text.
use Rattle.std.proofs.Common.{◌≡◌, ◌∙◌, ap, sym, true, subst, rules}
use Rattle.std.specs.Prelude.{is_some}
use Rattle.apf_values.specs.Flat.{data_at}
use Rattle.apf_values.specs.Usual.{are_usual}
use Rattle.apf_values.proofs.Documents.{alike, IsAlike}
use Rattle.apf_values.proofs.line.usual_tape.Goals as goal

pub returns-clause-held : goal.returns-clause-held
returns-clause-held c =
    let usual : are_usual 127 c.in-Ok.tape ≡ true = ap (are_usual 127) (sym c.nodes.ensures.tokens) ∙ sym c.are_usual.ensures ∙ c.if-not-are_usual.false in
    let is = alike c.args.text.now c.in-Ok.ensures.ok.1 (ap (are_usual 127) (sym c.in-Ok.ensures.ok.0) ∙ usual) in
    ap (λ ts. is_some (data_at ts)) c.in-Ok.ensures.ok.0 ∙ ap is_some is.2

pub returns-clause-value : goal.returns-clause-value
returns-clause-value c =
    let usual : are_usual 127 c.in-Ok.tape ≡ true = ap (are_usual 127) (sym c.nodes.ensures.tokens) ∙ sym c.are_usual.ensures ∙ c.if-not-are_usual.false in
    let is = alike c.args.text.now c.in-Ok.ensures.ok.1 (ap (are_usual 127) (sym c.in-Ok.ensures.ok.0) ∙ usual) in
    is.1 ∙ sym is.2 ∙ ap data_at (sym c.in-Ok.ensures.ok.0)
