use Rattle.std.proofs.Common.{◌∙◌, ap, sym, unwrap_or, Bor}
use Rattle.clap.specs.Walk.{Text}
use Rattle.apf_commands.proofs.Matches.{text_as}
use Rattle.apf_commands.proofs.words.text_or.Goals as goal

pub returns : goal.returns
returns c =
    ap (λ o. unwrap_or o c.args.otherwise.now) c.option_of.ensures ∙ text_as c.option_of.result c.args.otherwise
    ∙ ap (λ (t : Bor Text). t.now) (sym c.unwrap_or.ensures)
