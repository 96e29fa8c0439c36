use Rattle.std.proofs.Common.{◌∙◌}
use Rattle.std.specs.Str.Parse.{ParsesUnsigned, ExplainsUnsignedError, HasUnsignedDigitsIfOk}
use Rattle.clap.specs.Words.{found_of}
use Rattle.clap.proofs.WalkLemmas.{one_text-rows}
use Rattle.apf_commands.proofs.Matches.{number_there, number_read}
use Rattle.apf_commands.proofs.words.u32_of.Goals as goal

pub unwrap-requires : goal.unwrap-requires
unwrap-requires c =
    let text = c.requires.1.0 in
    let rows = one_text-rows (found_of c.args.matches.now) c.args.id.now in
    number_there (λ bs r. ParsesUnsigned 32 10 bs r × ExplainsUnsignedError 10 bs r × HasUnsignedDigitsIfOk bs r) 32 text (λ x h. h.0)
    c.requires.0 c.get_one.result c.requires.1.2 (c.get_one.ensures.value text (rows ∙ c.requires.1.1))

pub returns : goal.returns
returns c =
    let text = c.requires.1.0 in
    let rows = one_text-rows (found_of c.args.matches.now) c.args.id.now in (
      text,
      c.requires.1.1,
      number_read (λ bs r. ParsesUnsigned 32 10 bs r × ExplainsUnsignedError 10 bs r × HasUnsignedDigitsIfOk bs r) 32 text (λ x h. h.0)
          c.unwrap.result c.get_one.result c.unwrap.ensures (c.get_one.ensures.value text (rows ∙ c.requires.1.1)),
    )
