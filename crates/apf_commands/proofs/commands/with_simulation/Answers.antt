-- What the chain of builders makes.
use Rattle.std.proofs.lemmas.Result.{IfOk-weaker}
use Rattle.apf_commands.proofs.Chain.{added}
use Rattle.apf_commands.proofs.commands.with_simulation.Goals as goal

pub returns : goal.returns
returns c = IfOk-weaker c.arg-4.result _ _ (λ r h app made. added (added (added (added made c.text.ensures.rule c.text.ensures.local c.in_ok-arg.ensures) c.text-2.ensures.rule c.text-2.ensures.local c.in_ok-arg-2.ensures) c.text-3.ensures.rule c.text-3.ensures.local c.in_ok-arg-3.ensures) c.option.ensures.rule c.option.ensures.local h) c.arg-4.ensures
