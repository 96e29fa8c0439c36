-- What the chain of builders makes.
use Rattle.std.proofs.Common.{◌∙◌, ap}
use Rattle.std.proofs.lemmas.Result.{IfOk-weaker}
use Rattle.clap.specs.Simple.{App}
use Rattle.apf_commands.specs.Commands.{shape_for}
use Rattle.apf_commands.proofs.Chain.{shaped, with_texts}
use Rattle.apf_commands.proofs.commands.command_of.Goals as goal

pub returns : goal.returns
unfolding shape_for
returns c =
    let start = with_texts c.new.result c.about.result c.new.ensures.app c.new.ensures.local c.about.ensures c.after_help-command.ensures in
    record {
      shape = IfOk-weaker c.with_arguments.result _ _ (λ r h. ap (λ (a : App). a.top) (h _ start).app_is ∙ shaped _ _) c.with_arguments.ensures;
      local = IfOk-weaker c.with_arguments.result _ _ (λ r h. (h _ start).local) c.with_arguments.ensures;
    }
