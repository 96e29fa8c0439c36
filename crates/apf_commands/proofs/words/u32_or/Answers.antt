-- The number of the option's text, or the other one where it is not given.
use Rattle.std.proofs.Common.{◌∙◌, ap, inl, inr, sym, unwrap_or}
use Rattle.std.specs.Str.Parse.{ParsesUnsigned, ExplainsUnsignedError, HasUnsignedDigitsIfOk}
use Rattle.clap.specs.Words.{found_of}
use Rattle.clap.proofs.WalkLemmas.{one_text-rows}
use Rattle.apf_commands.proofs.Matches.{option_read}
use Rattle.apf_commands.proofs.words.u32_or.Goals as goal

pub returns : goal.returns
returns c n is =
    let rows = one_text-rows (found_of c.args.matches.now) c.args.id.now in
    elim is [
      | inl given ↦
          option_read (λ bs r. ParsesUnsigned 32 10 bs r × ExplainsUnsignedError 10 bs r × HasUnsignedDigitsIfOk bs r) 32 given.0 (λ x h. h.0)
          n c.unwrap_or.result c.args.otherwise c.get_one.result given.2 (c.get_one.ensures.value given.0 (rows ∙ given.1)) c.unwrap_or.ensures
      | inr left_out ↦
          c.unwrap_or.ensures ∙ ap (λ o. unwrap_or o c.args.otherwise) (c.get_one.ensures.none (rows ∙ left_out.0)) ∙ sym left_out.1
    ]
