use Rattle.std.proofs.Common.{◌∙◌, sym, ap, option_map}
use Rattle.clap.specs.Words.{found_of}
use Rattle.clap.proofs.WalkLemmas.{first_value-rows}
use Rattle.apf_commands.proofs.Matches.{text_there}
use Rattle.apf_commands.proofs.words.text_of.Goals as goal

pub unwrap-requires : goal.unwrap-requires
unwrap-requires c =
    let rows = first_value-rows (found_of c.args.matches.now) c.args.id.now in
    text_there c.get_str.result c.requires.0 (c.get_str.ensures ∙ rows ∙ c.requires.1)

pub returns : goal.returns
returns c =
    let rows = first_value-rows (found_of c.args.matches.now) c.args.id.now in
    sym rows ∙ (sym c.get_str.ensures ∙ ap (option_map (λ s. s.now)) c.unwrap.ensures)
