-- What the chain of builders makes.
use Rattle.std.proofs.lemmas.Result.{IfOk-weaker}
use Rattle.apf_commands.proofs.Chain.{added}
use Rattle.apf_commands.proofs.commands.with_trace.Goals as goal

pub returns : goal.returns
returns c = IfOk-weaker c.arg.result _ _ (λ r h app made. added made c.text.ensures.rule c.text.ensures.local h) c.arg.ensures
