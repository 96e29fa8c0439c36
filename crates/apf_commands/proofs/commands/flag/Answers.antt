use Rattle.apf_commands.proofs.Chain.{flag_made}
use Rattle.apf_commands.proofs.commands.flag.Goals as goal

pub returns : goal.returns
returns c =
    let made = flag_made c.new.result c.long.result c.action.result c.help.result c.new.ensures.rule c.new.ensures.optional.1 c.long.ensures c.action.ensures c.help.ensures in
    record { rule = made.0; local = made.1 }
