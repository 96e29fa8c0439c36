-- What the chain of builders makes.
use Rattle.std.proofs.Common.{◌∙◌, ap}
use Rattle.std.proofs.lemmas.Result.{IfOk-weaker}
use Rattle.clap.specs.Simple.{app_of}
use Rattle.apf_commands.specs.Commands.{apf_app, level_commands, trace_commands, with_commands}
use Rattle.apf_commands.proofs.Chain.{asking, versioned, with_texts}
use Rattle.apf_commands.proofs.commands.apf_command.Goals as goal

pub returns : goal.returns
unfolding apf_app
returns c =
    let start = with_texts c.new.result c.about.result c.new.ensures.app c.new.ensures.local c.about.ensures c.after_help.ensures in
    let asks = (asking (versioned start c.version.ensures) c.subcommand_required-program.ensures).app_is in
    let first = ap (λ cs. with_commands cs (app_of c.subcommand_required-program.result)) c.entries.ensures in
    let then = ap (λ cs. with_commands cs (app_of c.in_ok-program.program)) c.entries-2.ensures in
    let levels = c.in_ok-program.ensures ∙ (first ∙ ap (with_commands level_commands) asks) in
    record { app = IfOk-weaker c.with_entries-2.result _ _ (λ r h. h ∙ (then ∙ ap (with_commands trace_commands) levels)) c.with_entries-2.ensures }
