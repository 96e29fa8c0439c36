use Rattle.apf_commands.proofs.Chain.{option_made}
use Rattle.apf_commands.proofs.commands.option.Goals as goal

pub returns : goal.returns
returns c =
    let made = option_made c.new.result c.long.result c.value_name.result c.help.result c.new.ensures.rule c.new.ensures.optional.1 c.long.ensures
    c.value_name.ensures c.help.ensures in
    record { rule = made.0; local = made.1 }
