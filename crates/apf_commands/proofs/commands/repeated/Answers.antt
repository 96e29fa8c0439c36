use Rattle.apf_commands.proofs.Chain.{repeated_made}
use Rattle.apf_commands.proofs.commands.repeated.Goals as goal

pub returns : goal.returns
returns c =
    let made = repeated_made c.option.result c.action.result c.option.ensures.rule c.option.ensures.local c.action.ensures in
    record { rule = made.0; local = made.1 }
