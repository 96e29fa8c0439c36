use Rattle.std.proofs.Common.{◌∙◌, ap, Some}
use Rattle.clap.specs.declared.builder.value_parser.ValueParser.{ValueParser}
use Rattle.apf_commands.proofs.Chain.{number_made}
use Rattle.apf_commands.proofs.commands.number_option.Goals as goal

pub returns : goal.returns
returns c =
    let parsed = c.value_parser.ensures in
    let made = number_made c.option.result c.value_parser.result c.args.parser c.option.ensures.rule c.option.ensures.local parsed.others
    (parsed.given.1 ∙ ap (λ (p : ValueParser). Some p) parsed.given.2) in
    record { rule = made.0; local = made.1 }
