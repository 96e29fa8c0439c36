-- What the chain of builders makes.
use Rattle.std.proofs.lemmas.Result.{IfOk-weaker}
use Rattle.apf_commands.proofs.Chain.{added}
use Rattle.apf_commands.proofs.commands.with_bounded.Goals as goal

pub returns : goal.returns
returns c = IfOk-weaker c.arg.result _ _ (λ r h app made. added (c.in_ok-with_simulation.ensures app made) c.flag.ensures.rule c.flag.ensures.local h) c.arg.ensures
