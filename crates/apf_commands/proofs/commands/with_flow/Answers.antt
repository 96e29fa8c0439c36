-- What the chain of builders makes.
use Rattle.std.proofs.lemmas.Result.{IfOk-weaker}
use Rattle.apf_commands.proofs.Chain.{added}
use Rattle.apf_commands.proofs.commands.with_flow.Goals as goal

pub returns : goal.returns
returns c = IfOk-weaker c.arg-2.result _ _ (λ r h app made. added (added made c.text.ensures.rule c.text.ensures.local c.in_ok-arg.ensures) c.text-2.ensures.rule c.text-2.ensures.local h) c.arg-2.ensures
