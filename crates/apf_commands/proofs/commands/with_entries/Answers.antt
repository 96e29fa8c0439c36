-- One command more.
use Rattle.std.proofs.Common.{◌∙◌, ap, ap₂, sym, take, map}
use Rattle.std.proofs.lemmas.List.{map_more}
use Rattle.clap.specs.Simple.{app_of, with_subcommand}
use Rattle.apf_commands.specs.Commands.{listed, with_commands}
use Rattle.apf_commands.proofs.Named.{with_commands_last}
use Rattle.apf_commands.proofs.commands.with_entries.Goals as goal

pub loop-entry-preserved : goal.loop-entry-preserved
loop-entry-preserved c =
    let program = app_of c.args.program in
    let before = map listed (take c.loop-entry.entry-index c.args.entries.now) in
    c.in_ok-program.ensures.shape c.in_ok-command_of.ensures.local
    ∙ (ap₂ with_subcommand c.loop-entry.invariant c.in_ok-command_of.ensures.shape
    ∙ (sym (with_commands_last before _ program) ∙ ap (λ cs. with_commands cs program) (sym (map_more listed c.args.entries.now c.loop-entry.entry-index _ c.loop-entry-test.true))))
