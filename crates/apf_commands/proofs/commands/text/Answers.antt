use Rattle.apf_commands.proofs.Chain.{text_made}
use Rattle.apf_commands.proofs.commands.text.Goals as goal

pub returns : goal.returns
returns c =
    let made = text_made c.new.result c.required.result c.help.result c.new.ensures.rule c.new.ensures.optional.1 c.required.ensures c.help.ensures in
    record { rule = made.0; local = made.1 }
