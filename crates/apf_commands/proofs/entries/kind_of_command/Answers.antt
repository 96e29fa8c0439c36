use Rattle.std.proofs.Common.{◌∙◌, ap, sym}
use Rattle.apf_commands.specs.Commands.{commands, kind_in, kind_named, level_commands, trace_commands}
use Rattle.apf_commands.proofs.Named.{kind_first, kind_then}
use Rattle.apf_commands.proofs.entries.kind_of_command.Goals as goal

pub returns-in-Some : goal.returns-in-Some
unfolding commands kind_named
returns-in-Some c =
    let name = c.args.name.now in
    let among = ap (λ cs. kind_in cs name) c.entries.ensures in
    sym (kind_first name c.in-Some.kind level_commands trace_commands (sym (c.in-Some.ensures ∙ among)))

pub returns : goal.returns
unfolding commands kind_named
returns c =
    let name = c.args.name.now in
    let among = ap (λ cs. kind_in cs name) c.entries.ensures in
    let then = ap (λ cs. kind_in cs name) c.entries-2.ensures in
    c.kind_among-2.ensures ∙ (then ∙ sym (kind_then name level_commands trace_commands (sym (c.in_default.ensures ∙ among))))
