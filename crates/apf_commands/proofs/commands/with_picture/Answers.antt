-- What the chain of builders makes.
use Rattle.std.proofs.lemmas.Result.{IfOk-weaker}
use Rattle.apf_commands.proofs.Chain.{added}
use Rattle.apf_commands.proofs.commands.with_picture.Goals as goal

pub returns : goal.returns
returns c = IfOk-weaker c.arg-2.result _ _ (λ r h app made. added (added (c.in_ok-with_simulation.ensures app made) c.option.ensures.rule c.option.ensures.local c.in_ok-arg.ensures) c.option-2.ensures.rule c.option-2.ensures.local h) c.arg-2.ensures
