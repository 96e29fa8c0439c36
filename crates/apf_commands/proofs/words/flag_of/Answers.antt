-- The flag of the option's text.
use Rattle.std.proofs.Common.{◌≡◌, ◌∙◌, Bool, true, false, subst, sym}
use Rattle.clap.specs.Words.{found_of, rows_of}
use Rattle.clap.proofs.WalkLemmas.{one_text-rows}
use Rattle.apf_commands.specs.Meaning.{IsFlag}
use Rattle.apf_commands.proofs.words.flag_of.Goals as goal

pub returns : goal.returns
returns c =
    let read = one_text-rows (found_of c.args.matches.now) c.args.id.now in
    go c.requires.0 c.requires.1 (λ is. c.get_flag.ensures.value (read ∙ is)) (λ is. c.get_flag.ensures.other (read ∙ is))
  where
    Read : Bool → Type 0
    Read = IsFlag (rows_of (found_of c.args.matches.now)) c.args.id.now

    go : (b : Bool) → Read b → (Read true → c.get_flag.result ≡ true) → (Read false → c.get_flag.result ≡ false) → Read c.get_flag.result
    go true is given left_out = subst Read (sym (given is)) is
    go false is given left_out = subst Read (sym (left_out is)) is
